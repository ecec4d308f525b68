-- The sections of binaries.
use Rattle.std.proofs.Common.{◌≡◌, ℕ, ◌==◌, ◌<◌, ◌^◌, true, false, List, [], ◌∷◌, ◌++◌, length, inl, inr, refl, sym, ◌∙◌, ap, arith, length-append, append_assoc}
use Rattle.std.specs.Prelude.{codes, All}
use Rattle.std.specs.List.{flat_map, list_all}
use Rattle.std.proofs.lemmas.Bool.{and_parts, cases_Bool, eqb-true, true≢false}
use Rattle.std.proofs.lemmas.List.Elements.{All-nil, All-cons}
use Rattle.tl_path.specs.Bytes.{is_of_platform}
use Rattle.tl_path.specs.Names.{is_platform}
use Rattle.tl_path.specs.Path.{IsPath}
use Rattle.tl_path.proofs.Words.{platform_bytes}
use Rattle.tl_entry.specs.Rising.{comes_before}
use Rattle.tl_entry.specs.declared.object.BinFiles.{BinFiles}
use Rattle.tl_object.specs.Formed.{IsFormedBin}
use Rattle.tl_object.specs.Writing.{path_line, section_line, bin_line, bin_lines}
use Rattle.tl_object.proofs.PlainLemmas.{plain_bin_line}
use Rattle.tl_written.specs.Found.{LacksEach}
use Rattle.tl_written.specs.Rises.{AreRising}
use Rattle.tl_written.specs.Pieces.{PathsStand, BinStands}
use Rattle.tl_written.proofs.BeginLemmas.{bin_lines-fronts}
use Rattle.tl_written.proofs.FindLemmas.{append-cancel, skip, begins-all}
use Rattle.tl_written.proofs.PathLemmas.{section_front}
use Rattle.tl_written.proofs.StandLemmas.{behind-both}
use Rattle.tl_written.proofs.TextLemmas.{Front, front-both}

-- the line of a section of binaries
front_bin : (platform text section paths : List ℕ) (blocks : ℕ) → is_platform platform ≡ true → blocks < 2 ^ 64 → text ≡ codes "binfiles arch=" ++ section → section ≡ section_line platform blocks ++ paths
    → Front (bin_line platform blocks) text paths
unfolding bin_line
front_bin platform text section paths blocks is small one two = record {
  same = behind-both (codes "binfiles arch=") (section_line platform blocks) text section paths one two;
  plain = plain_bin_line platform blocks is small;
}

-- a section of binaries
pub bin-stands : (platform text section paths rest : List ℕ) (blocks : ℕ) → is_platform platform ≡ true → blocks < 2 ^ 64 → text ≡ codes "binfiles arch=" ++ section → section ≡ section_line platform blocks ++ paths
    → PathsStand paths rest → BinStands platform text rest
bin-stands platform text section paths rest blocks is small one two some =
    let line : Front (bin_line platform blocks) text paths = front_bin platform text section paths blocks is small one two in
    let whole = front-both (bin_line platform blocks) (flat_map path_line some.value) text paths rest line (record { same = some.same; plain = some.plain }) in
    record {
      value = record { platform = platform; blocks = blocks; paths = some.value };
      same = whole.same;
      plain = whole.plain;
      is = (record { platform = is; blocks = small; paths = some.is.each; rising = some.is.rising }, refl);
    }

-- what stands behind a section of binaries is shorter
pub bin-shorter : (platform text rest : List ℕ) → BinStands platform text rest → length rest < length text
unfolding bin_line
bin-shorter platform text rest one =
    omega (arith, ap length one.same, length-append (bin_lines one.value) rest, length-append (bin_line one.value.platform one.value.blocks) (flat_map path_line one.value.paths), length-append (codes "binfiles arch=") (section_line one.value.platform one.value.blocks))

-- a section of binaries, cut behind its word
pub bin_front : (text rest : List ℕ) (bin : BinFiles) → text ≡ bin_lines bin ++ rest
    → text ≡ codes "binfiles arch=" ++ (section_line bin.platform bin.blocks ++ (flat_map path_line bin.paths ++ rest))
unfolding bin_line
bin_front text rest bin same =
    same ∙ append_assoc (codes "binfiles arch=" ++ section_line bin.platform bin.blocks) (flat_map path_line bin.paths) rest
    ∙ append_assoc (codes "binfiles arch=") (section_line bin.platform bin.blocks) (flat_map path_line bin.paths ++ rest)

-- what stands behind its word
bin_section : (text section rest : List ℕ) (bin : BinFiles) → text ≡ bin_lines bin ++ rest → text ≡ codes "binfiles arch=" ++ section
    → section ≡ section_line bin.platform bin.blocks ++ (flat_map path_line bin.paths ++ rest)
bin_section text section rest bin same one =
    append-cancel (codes "binfiles arch=") section (section_line bin.platform bin.blocks ++ (flat_map path_line bin.paths ++ rest)) (sym one ∙ bin_front text rest bin same)

-- a byte that platforms have is no space
no_space : (b : ℕ) → is_of_platform b ≡ true → (b == 32) ≡ false
no_space b is = elim (cases_Bool (b == 32)) [
  | inl space ↦ absurd (true≢false (sym is ∙ ap is_of_platform (eqb-true b 32 space)))
  | inr other ↦ other
]

-- no byte of a platform is a space
unspaced : (bytes : List ℕ) → list_all is_of_platform bytes ≡ true → All (λ b. (b == 32) ≡ false) bytes
unspaced [] is = All-nil (λ b. (b == 32) ≡ false)
unspaced (b ∷ bytes) is =
    let parts = and_parts (is_of_platform b) (list_all is_of_platform bytes) is in
    All-cons (λ b. (b == 32) ≡ false) b bytes (no_space b parts.0) (unspaced bytes parts.1)

-- a section of binaries is cut at the space behind its platform
pub bin_spaced : (text section rest : List ℕ) (bin : BinFiles) → IsFormedBin bin → text ≡ bin_lines bin ++ rest → text ≡ codes "binfiles arch=" ++ section
    → ((front behind : List ℕ) → All (λ b. (b == 32) ≡ false) front → section ≡ front ++ 32 ∷ behind → ⊥) → ⊥
bin_spaced text section rest bin formed same one none =
    none bin.platform _ (unspaced bin.platform (platform_bytes bin.platform formed.platform))
    (section_front bin.platform section (flat_map path_line bin.paths ++ rest) bin.blocks (bin_section text section rest bin same one))

-- a platform was found, and so the line of its section
pub record BinFound (section named rest : List ℕ) (bin : BinFiles) : Type 0 where
  pub platform : named ≡ bin.platform
  pub same : section ≡ section_line named bin.blocks ++ (flat_map path_line bin.paths ++ rest)
  pub small : bin.blocks < 2 ^ 64
  pub rising : AreRising (λ (path : List ℕ). path) IsPath bin.paths

-- where a section of binaries stands, its platform is found
pub bin_found : (text section named left rest : List ℕ) (bin : BinFiles) → IsFormedBin bin → text ≡ bin_lines bin ++ rest → text ≡ codes "binfiles arch=" ++ section
    → ((front behind : List ℕ) → All (λ b. (b == 32) ≡ false) front → section ≡ front ++ 32 ∷ behind → (named ≡ front) × (left ≡ behind)) → BinFound section named rest bin
bin_found text section named left rest bin formed same one once =
    let behind = bin_section text section rest bin same one in
    let found : named ≡ bin.platform = (once bin.platform _ (unspaced bin.platform (platform_bytes bin.platform formed.platform)) (section_front bin.platform section (flat_map path_line bin.paths ++ rest) bin.blocks behind)).0 in
    record {
      platform = found;
      same = behind ∙ ap (λ (p : List ℕ). section_line p bin.blocks ++ (flat_map path_line bin.paths ++ rest)) (sym found);
      small = formed.blocks;
      rising = record { each = formed.paths; rising = formed.rising };
    }

-- what was found is a platform
pub found_platform : (named : List ℕ) (bin : BinFiles) → IsFormedBin bin → named ≡ bin.platform → is_platform named ≡ false → ⊥
found_platform named bin formed same fails = true≢false (sym formed.platform ∙ ap is_platform (sym same) ∙ fails)

-- no platform is empty
pub platform_after : (bin : BinFiles) → IsFormedBin bin → comes_before [] bin.platform ≡ true
platform_after bin formed = some_after bin.platform formed.platform
  where
    some_after : (platform : List ℕ) → is_platform platform ≡ true → comes_before [] platform ≡ true
    some_after [] is = absurd (cc)
    some_after (b ∷ platform) is = refl

-- a text where a section of binaries stands begins with its word
pub bin_begun : (platform text behind rest : List ℕ) → BinStands platform text behind → LacksEach rest ((32 ∷ []) ∷ codes "binfiles arch=" ∷ []) → text ≡ rest → ⊥
bin_begun platform text behind rest one lacks same = lacks.1.0 _ (sym same ∙ bin_front text behind one.value one.same)

-- no section of binaries begins with a space
pub bins_lack : (bins : List BinFiles) (rest : List ℕ) → LacksEach rest ((32 ∷ []) ∷ codes "binfiles arch=" ∷ []) → LacksEach (flat_map bin_lines bins ++ rest) ((32 ∷ []) ∷ [])
bins_lack bins rest lacks =
    skip (codes "binfiles arch=") (flat_map bin_lines bins) rest ((32 ∷ []) ∷ []) (begins-all (codes "binfiles arch=") bin_lines bins bin_lines-fronts) refl (lacks.0, tt)
