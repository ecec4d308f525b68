-- Acknowledged lines among bytes.
use Rattle.std.specs.Prelude.{◌≡◌, ◌≤◌, ◌+◌, ◌==◌, ◌&&◌, if◌then◌else◌, ℕ, Bool, true, false, cond, List, [], ◌∷◌, ◌++◌, take, drop, nat_eq, codes, refl}
use Rattle.std.specs.List.{AllByRecursion, before_first, after_first, starts_with, ends_with}
use Rattle.std.proofs.Common.{sym, ◌∙◌, ap, arith, append_assoc}
use Rattle.std.proofs.lemmas.List.{append-nil, take-append-drop}
use Rattle.std.proofs.lemmas.List.Elements.{All-head, All-tail}
use Rattle.tl_model.specs.Decimal.{is_decimal}
use Rattle.tl_model.specs.Lines.{IsLine, text_of}

-- a line, without its end, of the form `step K/N .. done`
abbrev pub is_ack : List ℕ → Bool
is_ack line =
    let words = drop 5 line in
    let ratio = before_first (λ b. b == 32) words in
    starts_with nat_eq line (codes "step ")
    && (is_decimal (before_first (λ b. b == 47) ratio) && (is_decimal (after_first (λ b. b == 47) ratio)
    && ends_with nat_eq (after_first (λ b. b == 32) words) (codes " done")))

-- whole lines that are acknowledgements, after the front of a line
abbrev pub acks_after : List ℕ → List ℕ → ℕ
acks_after line [] = 0
acks_after line (b ∷ bytes) = if b == 10 then (if is_ack line then 1 else 0) + acks_after [] bytes else acks_after (line ++ b ∷ []) bytes

-- the line that isn't ended
abbrev pub open_line : List ℕ → List ℕ → List ℕ
open_line line [] = line
open_line line (b ∷ bytes) = if b == 10 then open_line [] bytes else open_line (line ++ b ∷ []) bytes

-- how many acknowledged lines some bytes have
unfoldable pub acks : List ℕ → ℕ
acks bytes = acks_after [] bytes

-- bytes that are whole lines without an acknowledgement
pub record IsPlain (bytes : List ℕ) : Type 0 where
  pub none : acks bytes ≡ 0
  pub whole : open_line [] bytes ≡ []

-- bytes that are one acknowledged line
pub record IsLabel (bytes : List ℕ) : Type 0 where
  pub one : acks bytes ≡ 1
  pub whole : open_line [] bytes ≡ []

pub acks-nil : acks [] ≡ 0
unfolding acks
acks-nil = refl

-- no bytes are plain
pub plain-nil : IsPlain []
plain-nil = record { none = acks-nil; whole = refl }

-- bytes whose plainness computes, as those of a literal
pub plain-literal : (bytes : List ℕ) → acks_after [] bytes ≡ 0 → open_line [] bytes ≡ [] → IsPlain bytes
unfolding acks
plain-literal bytes none whole = record { none = none; whole = whole }

acks_append : (line xs ys : List ℕ) → acks_after line (xs ++ ys) ≡ acks_after line xs + acks_after (open_line line xs) ys
acks_append line [] ys = omega arith
acks_append line (b ∷ xs) ys = by (acks_append [] xs ys) (acks_append (line ++ b ∷ []) xs ys) (b == 10)
  where
    by : acks_after [] (xs ++ ys) ≡ acks_after [] xs + acks_after (open_line [] xs) ys → acks_after (line ++ b ∷ []) (xs ++ ys) ≡ acks_after (line ++ b ∷ []) xs + acks_after (open_line (line ++ b ∷ []) xs) ys → (t : Bool)
        → cond t ((if is_ack line then 1 else 0) + acks_after [] (xs ++ ys)) (acks_after (line ++ b ∷ []) (xs ++ ys))
        ≡ cond t ((if is_ack line then 1 else 0) + acks_after [] xs) (acks_after (line ++ b ∷ []) xs) + acks_after (cond t (open_line [] xs) (open_line (line ++ b ∷ []) xs)) ys
    by ended goes_on true = omega (arith, ended)
    by ended goes_on false = goes_on

-- the open line of bytes after others
pub open_line-append : (line xs ys : List ℕ) → open_line line (xs ++ ys) ≡ open_line (open_line line xs) ys
open_line-append line [] ys = refl
open_line-append line (b ∷ xs) ys = by (open_line-append [] xs ys) (open_line-append (line ++ b ∷ []) xs ys) (b == 10)
  where
    by : open_line [] (xs ++ ys) ≡ open_line (open_line [] xs) ys → open_line (line ++ b ∷ []) (xs ++ ys) ≡ open_line (open_line (line ++ b ∷ []) xs) ys → (t : Bool)
        → cond t (open_line [] (xs ++ ys)) (open_line (line ++ b ∷ []) (xs ++ ys)) ≡ open_line (cond t (open_line [] xs) (open_line (line ++ b ∷ []) xs)) ys
    by ended goes_on true = ended
    by ended goes_on false = goes_on

-- whole lines in front of other bytes
pub acks-append : (xs ys : List ℕ) → open_line [] xs ≡ [] → acks (xs ++ ys) ≡ acks xs + acks ys
unfolding acks
acks-append xs ys whole = acks_append [] xs ys ∙ ap (λ (l : List ℕ). acks_after [] xs + acks_after l ys) whole

-- plain lines after plain lines
pub plain-append : (xs ys : List ℕ) → IsPlain xs → IsPlain ys → IsPlain (xs ++ ys)
plain-append xs ys far near = record {
  none = omega (arith, acks-append xs ys far.whole, far.none, near.none);
  whole = open_line-append [] xs ys ∙ ap (λ (l : List ℕ). open_line l ys) far.whole ∙ near.whole;
}

-- a front of some bytes has no more acknowledged lines
pub acks-take-le : (n : ℕ) (xs : List ℕ) → acks (take n xs) ≤ acks xs
unfolding acks
acks-take-le n xs = omega (arith, ap acks (take-append-drop n xs), acks_append [] (take n xs) (drop n xs))

-- a line with its end, behind the front of it
line_acks : (front line rest : List ℕ) → IsLine line → acks_after front (line ++ 10 ∷ rest) ≡ (if is_ack (front ++ line) then 1 else 0) + acks_after [] rest
line_acks front [] rest is = ap (λ (l : List ℕ). (if is_ack l then 1 else 0) + acks_after [] rest) (sym (append-nil front))
line_acks front (b ∷ line) rest is =
    ap (λ t. cond t ((if is_ack front then 1 else 0) + acks_after [] (line ++ 10 ∷ rest)) (acks_after (front ++ b ∷ []) (line ++ 10 ∷ rest))) (All-head (λ b. (b == 10) ≡ false) b line is)
    ∙ line_acks (front ++ b ∷ []) line rest (All-tail (λ b. (b == 10) ≡ false) b line is)
    ∙ ap (λ (l : List ℕ). (if is_ack l then 1 else 0) + acks_after [] rest) (append_assoc front (b ∷ []) line)

line_open : (front line rest : List ℕ) → IsLine line → open_line front (line ++ 10 ∷ rest) ≡ open_line [] rest
line_open front [] rest is = refl
line_open front (b ∷ line) rest is =
    ap (λ t. cond t (open_line [] (line ++ 10 ∷ rest)) (open_line (front ++ b ∷ []) (line ++ 10 ∷ rest))) (All-head (λ b. (b == 10) ≡ false) b line is)
    ∙ line_open (front ++ b ∷ []) line rest (All-tail (λ b. (b == 10) ≡ false) b line is)

-- one line that is no acknowledgement, in front of plain lines
pub plain-line : (line rest : List ℕ) → IsLine line → is_ack line ≡ false → IsPlain rest → IsPlain (line ++ 10 ∷ rest)
unfolding acks
plain-line line rest is other plain = record {
  none = line_acks [] line rest is ∙ ap (λ t. cond t 1 0 + acks_after [] rest) other ∙ ap (λ (n : ℕ). 0 + n) plain.none;
  whole = line_open [] line rest is ∙ plain.whole;
}

-- lines that are no acknowledgements, each with its end
pub plain-text_of : (some : List (List ℕ)) → AllByRecursion IsLine some → AllByRecursion (λ line. is_ack line ≡ false) some → IsPlain (text_of some)
plain-text_of [] are others = plain-nil
plain-text_of (line ∷ more) are others = plain-line line (text_of more) are.0 others.0 (plain-text_of more are.1 others.1)
