-- The digest that a file states.
use Rattle.std.proofs.Common.{◌≡◌, ◌<◌, ◌*◌, ℕ, Bool, true, false, cond, List, [], ◌∷◌, length, take, drop, Option, Some, None, Result, Ok, Err, MatchResult, refl, sym, ◌∙◌, ap, subst, lit≤, arith}
use Rattle.std.specs.Option.{option_map, unwrap_or, is_none, ok_or}
use Rattle.std.specs.Result.{result_ok, IsOk}
use Rattle.std.proofs.lemmas.List.{length-take, take-take, drop-take}
use Rattle.hex.specs.Hex.{decode_sized}
use Rattle.hex.specs.declared.error.FromHexError.{FromHexError}
use Rattle.hex.proofs.HexLemmas.{IsOk-decode_sized}
use Rattle.tl_repo.specs.Faults.{Gives}
use Rattle.tl_repo.specs.Files.{is_ended, digest_in, digest_or_fault, digest_stated}
use Rattle.tl_repo.specs.declared.error.RepoError.TheVariants as errors

-- what is decoded has two digits a byte
decoded_length : (text bytes : List ℕ) (n : ℕ) → decode_sized text n ≡ Ok bytes → length text ≡ 2 * n
decoded_length text bytes n is = ((IsOk-decode_sized text n).0 (subst (λ (r : Result (List ℕ) FromHexError). IsOk r) (sym is) refl)).0

undecoded : (r : Result (List ℕ) FromHexError) → ((bytes : List ℕ) → r ≡ Ok bytes → ⊥) → result_ok r ≡ None
undecoded (Ok bytes) never = absurd (never bytes refl)
undecoded (Err e) never = refl

cond_none : (b : Bool) (o : Option (List ℕ)) → o ≡ None → cond b o None ≡ None
cond_none true o is = is
cond_none false o is = refl

-- a text that is too short states none
pub digest_in-short : (text : List ℕ) → length text < 128 → digest_in text ≡ None
digest_in-short text short =
    cond_none (is_ended (drop 128 text)) (result_ok (decode_sized (take 128 text) 64)) (undecoded (decode_sized (take 128 text) 64)
    (λ bytes is. absurd (omega (arith, short, length-take 128 text, decoded_length (take 128 text) bytes 64 is))))

-- nor does one that goes on behind its digits
pub digest_in-unended : (text : List ℕ) → is_ended (drop 128 text) ≡ false → digest_in text ≡ None
digest_in-unended text unended = ap (λ (b : Bool). cond b (result_ok (decode_sized (take 128 text) 64)) None) unended

-- and else it is that of the digits
pub digest_in-ended : (text : List ℕ) → is_ended (drop 128 text) ≡ true → digest_in text ≡ result_ok (decode_sized (take 128 text) 64)
digest_in-ended text ended = ap (λ (b : Bool). cond b (result_ok (decode_sized (take 128 text) 64)) None) ended

-- what decoding into room says
pub decoded_ok : (r : Result (List ℕ) FromHexError) (result : Result Unit FromHexError) (out : List ℕ) (x : Unit) → MatchResult r (λ bytes. (result ≡ Ok tt) × (out ≡ bytes)) (λ e. result ≡ Err e) → result ≡ Ok x → result_ok r ≡ Some out
decoded_ok (Ok bytes) result out x says is = ap (λ (l : List ℕ). Some l) (sym says.1)
decoded_ok (Err e) result out x says is = let no : Err e ≡ Ok x = sym says ∙ is in absurd (cc)

pub decoded_err : (r : Result (List ℕ) FromHexError) (result : Result Unit FromHexError) (out : List ℕ) (e : FromHexError) → MatchResult r (λ bytes. (result ≡ Ok tt) × (out ≡ bytes)) (λ e. result ≡ Err e) → result ≡ Err e → result_ok r ≡ None
decoded_err (Ok bytes) result out e says is = let no : Ok tt ≡ Err e = sym says.0 ∙ is in absurd (cc)
decoded_err (Err f) result out e says is = refl

-- a stated digest or the fault that there is none
digest_given : (o : Option (List ℕ)) → Gives (λ d. d) (ok_or o errors.BadDigestLine) (digest_or_fault o)
digest_given None = refl
digest_given (Some digest) = refl

-- whether a text is ended is seen at its first byte
is_ended-take : (text : List ℕ) → is_ended (take 1 text) ≡ is_ended text
is_ended-take [] = refl
is_ended-take (b ∷ text) = refl

-- the front of a file says what it states
digest_in-front : (file : List ℕ) → digest_in (take 129 file) ≡ digest_in file
digest_in-front file =
    ap (λ (l : List ℕ). cond (is_ended l) (result_ok (decode_sized (take 128 (take 129 file)) 64)) None) (drop-take 128 1 file)
    ∙ ap (λ (b : Bool). cond b (result_ok (decode_sized (take 128 (take 129 file)) 64)) None) (is_ended-take (drop 128 file))
    ∙ ap (λ (l : List ℕ). cond (is_ended (drop 128 file)) (result_ok (decode_sized l 64)) None) (take-take 128 129 file (lit≤ tt))

-- a file's digest is read from its front
pub digest_read : (held : Option (List ℕ)) (size : Option ℕ) (front : List ℕ) → size ≡ option_map length held → is_none size ≡ false → front ≡ take 129 (unwrap_or held [])
    → Gives (λ d. d) (ok_or (digest_in front) errors.BadDigestLine) (digest_stated held)
digest_read None size front is there front_is = let no : true ≡ false = sym (ap (λ (o : Option ℕ). is_none o) is) ∙ there in absurd (cc)
digest_read (Some file) size front is there front_is =
    subst (λ (o : Option (List ℕ)). Gives (λ d. d) (ok_or o errors.BadDigestLine) (digest_or_fault (digest_in file)))
    (sym (ap digest_in front_is ∙ digest_in-front file)) (digest_given (digest_in file))
