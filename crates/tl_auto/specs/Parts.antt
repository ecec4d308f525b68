-- What a text begins with, and what its variables are replaced by.
use Rattle.std.specs.Prelude.{◌≡◌, ℕ, ◌<◌, ◌==◌, ◌&&◌, Bool, false, List, [], ◌∷◌, length, Option, None, Some, option_map}
use Rattle.tl_auto.specs.declared.setting.Part.{Part}
use Rattle.tl_auto.specs.declared.setting.Part.TheVariants.{End, Byte, Variable, Open}
use Rattle.tl_auto.specs.Variables.{joined_texts, replaced_since}

-- whether a text begins with `${`
abbrev pub begins_variable : List ℕ → Bool
begins_variable [] = false
begins_variable (a ∷ []) = false
begins_variable (a ∷ b ∷ text) = a == 36 && b == 123

-- a text behind a `${` begins with a name and its `}`
pub record IsVariable (text name behind : List ℕ) : Type 0 where
  pub value : (value : List ℕ → Option (List ℕ)) → replaced_since value (Some []) text ≡ joined_texts (value name) (replaced_since value None behind)
  pub shorter : length behind < length text

-- what a text behind a `${` begins with
abbrev pub IsVariableOf : List ℕ → Part → Type 0
IsVariableOf text End = ⊥
IsVariableOf text (Byte byte behind) = ⊥
IsVariableOf text (Variable name behind) = IsVariable text name.now behind.now
IsVariableOf text Open = (value : List ℕ → Option (List ℕ)) → replaced_since value (Some []) text ≡ None

-- a text begins with a byte that stands for itself
pub record IsByte (text : List ℕ) (byte : ℕ) (behind : List ℕ) : Type 0 where
  pub value : (value : List ℕ → Option (List ℕ)) → replaced_since value None text ≡ option_map (λ r. byte ∷ r) (replaced_since value None behind)
  pub shorter : length behind < length text

-- a text begins with a variable
pub record IsVariableFirst (text name behind : List ℕ) : Type 0 where
  pub value : (value : List ℕ → Option (List ℕ)) → replaced_since value None text ≡ joined_texts (value name) (replaced_since value None behind)
  pub shorter : length behind < length text

-- what a text begins with
abbrev pub IsPartOf : List ℕ → Part → Type 0
IsPartOf text End = text ≡ []
IsPartOf text (Byte byte behind) = IsByte text byte behind.now
IsPartOf text (Variable name behind) = IsVariableFirst text name.now behind.now
IsPartOf text Open = (value : List ℕ → Option (List ℕ)) → replaced_since value None text ≡ None
