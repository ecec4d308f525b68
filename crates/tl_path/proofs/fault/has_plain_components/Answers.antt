use Rattle.tl_path.proofs.Plain.{plain}
use Rattle.tl_path.proofs.fault.has_plain_components.Goals as goal

pub returns-then-text-lt-DEEP_FROM : goal.returns-then-text-lt-DEEP_FROM
returns-then-text-lt-DEEP_FROM c = plain c.args.text.now _ _ c.in-len1-up.len_at_least c.if-text-lt-DEEP_FROM.true c.is_doubtful.ensures c.has_doubtful_pair.ensures
