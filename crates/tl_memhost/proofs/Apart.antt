-- One file more of those that a device is made of.
use Rattle.std.proofs.Common.{◌≡◌, ◌≢◌, ℕ, List, [], ◌∷◌, ◌++◌, None, Vec, refl, sym, ◌∙◌, ap, subst}
use Rattle.std.specs.Option.{is_some}
use Rattle.std.specs.FinMap as map
use Rattle.std.proofs.lemmas.Bool.{true≢false}
use Rattle.tl_model.specs.Volume.{Name, Volume, at, at-insert_here, at-insert_apart}
use Rattle.tl_file.specs.declared.file.FileBytes.{FileBytes}
use Rattle.std.specs.declared.alloc.Global.{Global}
use Rattle.tl_memhost.specs.declared.given.MemError.{MemError}
use Rattle.tl_memhost.specs.declared.given.MemError.TheVariants.{Repeated, NoMemory}
use Rattle.tl_memhost.specs.Given.{given, AreApart, IsRefusal}
use Rattle.tl_memhost.specs.Shelves.{EachApart, IsShelfRefusal}
use Rattle.tl_memhost.proofs.Held.{insert-swap}

not_first : (v : Volume) (name : Name) (bytes : List ℕ) (other : Name) → at (map.insert v name bytes) other ≡ None → other ≢ name
not_first v name bytes other none same = true≢false (sym (ap is_some (at-insert_here v name bytes)) ∙ ap is_some (subst (λ (n : Name). at (map.insert v name bytes) n ≡ None) same none))

pub given_push : (fs : List FileBytes) (f : FileBytes) → at (given fs) f.path ≡ None → given (fs ++ f ∷ []) ≡ map.insert (given fs) f.path f.bytes
given_push [] f none = refl
given_push (g ∷ fs) f none =
    let ne : f.path ≢ g.path = not_first (given fs) g.path g.bytes f.path none in
    ap (λ (v : Volume). map.insert v g.path g.bytes) (given_push fs f (sym (at-insert_apart (given fs) g.path g.bytes f.path ne) ∙ none))
    ∙ insert-swap (given fs) f.path f.bytes g.path g.bytes (λ e. ne (sym e))

pub apart_push : (fs : List FileBytes) (f : FileBytes) → AreApart fs → at (given fs) f.path ≡ None → AreApart (fs ++ f ∷ [])
apart_push [] f apart none = (none, tt)
apart_push (g ∷ fs) f apart none =
    let ne : f.path ≢ g.path = not_first (given fs) g.path g.bytes f.path none in
    let rest : at (given fs) f.path ≡ None = sym (at-insert_apart (given fs) g.path g.bytes f.path ne) ∙ none in
    (ap (λ (v : Volume). at v g.path) (given_push fs f rest) ∙ at-insert_apart (given fs) f.path f.bytes g.path (λ e. ne (sym e)) ∙ apart.0, apart_push fs f apart.1 rest)

-- a repository that isn't taken is the first one
pub shelf_refusal : (repos earlier later : List (Vec FileBytes Global)) (files : Vec FileBytes Global) (e : MemError) → repos ≡ earlier ++ files ∷ later → EachApart earlier → IsRefusal files.items e → IsShelfRefusal repos e
shelf_refusal repos earlier later files (Repeated path) split apart refusal = record { earlier = earlier; files = files; later = later; split = split; apart = apart; repeated = refusal }
shelf_refusal repos earlier later files NoMemory split apart refusal = tt
