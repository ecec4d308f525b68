use Rattle.std.proofs.Common.{sym, ◌∙◌, ap, bytes_eq}
use Rattle.std.specs.List.{list_any}
use Rattle.tl_action.specs.declared.command.Repository.{Repository}
use Rattle.tl_words.proofs.Drops.{list_any_map}
use Rattle.tl_words.proofs.settings.has_tag.Goals as goal

pub returns : goal.returns
returns c =
    c.has_bytes.ensures
    ∙ ap (λ t. list_any (λ (other : Repository). bytes_eq t other.tag) c.args.repositories.now) c.bytes.ensures.bytes
    ∙ sym (list_any_map (bytes_eq c.args.tag.now) (λ (other : Repository). other.tag) c.args.repositories.now)
