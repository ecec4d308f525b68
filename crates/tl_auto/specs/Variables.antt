-- The replacement of variables.
use Rattle.std.specs.Prelude.{ℕ, ◌==◌, ◌&&◌, if◌then◌else◌, List, [], ◌∷◌, ◌++◌, Option, None, Some, option_map, codes, bytes_eq}
use Rattle.std.specs.Option.{option_and_then}
use Rattle.tl_srctext.specs.declared.fields.SourceFields.{SourceFields}
use Rattle.tl_srctext.specs.Variables.{name_of, value_of}

-- what variables stand for: what the source sets, and the platform, where there is one
pub record Setting : Type 0 where
  pub source : SourceFields
  pub platform : Option (List ℕ)

-- the value of a variable: the package's name for PKGNAME, the platform for ARCH, else what the source sets
abbrev pub value_in : Setting → List ℕ → Option (List ℕ)
value_in setting name = if bytes_eq name (codes "PKGNAME") then Some setting.source.name
    else (if bytes_eq name (codes "ARCH") then setting.platform else option_and_then (λ n. value_of n setting.source.vars) (name_of name))

-- a text before another one, where there are both
abbrev pub joined_texts : Option (List ℕ) → Option (List ℕ) → Option (List ℕ)
joined_texts front rest = option_and_then (λ f. option_map (λ r. f ++ r) rest) front

-- a text in which each `${name}` has the value of the name in its place, once that was read of a name since its `${`; None where a
-- name has no value or no `}` behind it. Values aren't looked at again
unfoldable pub replaced_since : (List ℕ → Option (List ℕ)) → Option (List ℕ) → List ℕ → Option (List ℕ)
replaced_since value None [] = Some []
replaced_since value None (a ∷ []) = Some (a ∷ [])
replaced_since value None (a ∷ b ∷ text) =
    if a == 36 && b == 123 then replaced_since value (Some []) text else option_map (λ r. a ∷ r) (replaced_since value None (b ∷ text))
replaced_since value (Some name) [] = None
replaced_since value (Some name) (b ∷ text) =
    if b == 125 then joined_texts (value name) (replaced_since value None text) else replaced_since value (Some (name ++ b ∷ [])) text

-- a text with its variables replaced
abbrev pub replaced : Setting → List ℕ → Option (List ℕ)
replaced setting text = replaced_since (value_in setting) None text
