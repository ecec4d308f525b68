-- The entry's text and the files that tokens tell.
use Rattle.std.proofs.Common.{◌≡◌, ℕ, List, [], ◌∷◌, ◌++◌, refl, sym, ◌∙◌, ap, subst, append_assoc}
use Rattle.std.specs.Prelude.{map}
use Rattle.std.specs.List.{flat_map}
use Rattle.std.proofs.lemmas.List.{append-nil}
use Rattle.std.proofs.lemmas.List.Sums.{fold-append}
use Rattle.tl_file.specs.declared.file.FileBytes.{FileBytes}
use Rattle.tl_frame.specs.Frames.{IsFrame}
use Rattle.tl_frame.specs.Scan.{Token, FileByte, FrameEnd, Scan, tokens_of, file_tokens, frame_tokens}
use Rattle.tl_frame.specs.States.{IsWhole}
use Rattle.tl_frame.proofs.FrameLaws.{frame_scan}
use Rattle.tl_frame.specs.Events.{with_bytes, with_token, with_tokens}

pub with_bytes-push : (done : List FileBytes) (f : FileBytes) (bytes : List ℕ) → with_bytes (done ++ f ∷ []) bytes ≡ done ++ record { path = f.path; bytes = f.bytes ++ bytes } ∷ []
with_bytes-push [] f bytes = refl
with_bytes-push (d ∷ []) f bytes = refl
with_bytes-push (d ∷ e ∷ done) f bytes = ap (λ (l : List FileBytes). d ∷ l) (with_bytes-push (e ∷ done) f bytes)

with_bytes-none : (fs : List FileBytes) → with_bytes fs [] ≡ fs
with_bytes-none [] = refl
with_bytes-none (f ∷ []) = ap (λ (l : List ℕ). record { path = f.path; bytes = l } ∷ []) (append-nil f.bytes)
with_bytes-none (f ∷ g ∷ fs) = ap (λ (l : List FileBytes). f ∷ l) (with_bytes-none (g ∷ fs))

with_bytes-twice : (fs : List FileBytes) (xs ys : List ℕ) → with_bytes (with_bytes fs xs) ys ≡ with_bytes fs (xs ++ ys)
with_bytes-twice [] xs ys = refl
with_bytes-twice (f ∷ []) xs ys = ap (λ (l : List ℕ). record { path = f.path; bytes = l } ∷ []) (append_assoc f.bytes xs ys)
with_bytes-twice (f ∷ g ∷ []) xs ys = ap (λ (l : List ℕ). f ∷ record { path = g.path; bytes = l } ∷ []) (append_assoc g.bytes xs ys)
with_bytes-twice (f ∷ g ∷ h ∷ fs) xs ys = ap (λ (l : List FileBytes). f ∷ l) (with_bytes-twice (g ∷ h ∷ fs) xs ys)

-- the bytes of a file, one by one
pub with_tokens-bytes : (bytes entry : List ℕ) (fs : List FileBytes) → with_tokens (entry, fs) (map FileByte bytes) ≡ (entry, with_bytes fs bytes)
with_tokens-bytes [] entry fs = ap (λ (l : List FileBytes). (entry, l)) (sym (with_bytes-none fs))
with_tokens-bytes (b ∷ bytes) entry fs =
    with_tokens-bytes bytes entry (with_bytes fs (b ∷ []))
    ∙ ap (λ (l : List FileBytes). (entry, l)) (with_bytes-twice fs (b ∷ []) bytes)

pub with_tokens-append : (held : List ℕ × List FileBytes) (xs ys : List Token) → with_tokens held (xs ++ ys) ≡ with_tokens (with_tokens held xs) ys
with_tokens-append held xs ys = fold-append with_token held xs ys

with_tokens-files : (fs : List FileBytes) (entry : List ℕ) (done : List FileBytes) → with_tokens (entry, done) (flat_map file_tokens fs) ≡ (entry, done ++ fs)
with_tokens-files [] entry done = ap (λ (l : List FileBytes). (entry, l)) (sym (append-nil done))
with_tokens-files (f ∷ fs) entry done =
    let opened : List FileBytes = done ++ record { path = f.path; bytes = [] } ∷ [] in
    with_tokens-append (entry, opened) (map FileByte f.bytes) (flat_map file_tokens fs)
    ∙ ap (λ (held : List ℕ × List FileBytes). with_tokens held (flat_map file_tokens fs)) (with_tokens-bytes f.bytes entry opened ∙ ap (λ (l : List FileBytes). (entry, l)) (with_bytes-push done (record { path = f.path; bytes = [] }) f.bytes))
    ∙ with_tokens-files fs entry (done ++ f ∷ [])
    ∙ ap (λ (l : List FileBytes). (entry, l)) (append_assoc done (f ∷ []) fs)

-- what is gathered from a frame is what it was made of
pub with_tokens-frame : (entry : List ℕ) (fs : List FileBytes) → with_tokens ([], []) (frame_tokens entry fs) ≡ (entry, fs)
with_tokens-frame entry fs =
    with_tokens-append (entry, []) (flat_map file_tokens fs) (FrameEnd ∷ [])
    ∙ ap (λ (held : List ℕ × List FileBytes). with_tokens held (FrameEnd ∷ [])) (with_tokens-files fs entry [])

-- no two lists of files have one frame
pub one_frame : (text entry others : List ℕ) (fs gs : List FileBytes) → IsFrame text entry fs → IsFrame text others gs → (entry ≡ others) × (fs ≡ gs)
one_frame text entry others fs gs is also =
    let told = sym (ap (λ (s : Scan). s.tokens) (frame_scan text entry fs is)) ∙ ap (λ (s : Scan). s.tokens) (frame_scan text others gs also) in
    let same = sym (with_tokens-frame entry fs) ∙ ap (λ (ts : List Token). with_tokens ([], []) ts) told ∙ with_tokens-frame others gs in
    (ap (λ (held : List ℕ × List FileBytes). held.0) same, ap (λ (held : List ℕ × List FileBytes). held.1) same)

-- what was gathered from a frame has that frame
pub frame_got : (text entry : List ℕ) (fs : List FileBytes) (tokens : List Token) → IsWhole text → tokens ≡ tokens_of text → with_tokens ([], []) tokens ≡ (entry, fs) → IsFrame text entry fs
frame_got text entry fs tokens whole same got =
    let held = sym (with_tokens-frame whole.entry whole.files) ∙ ap (λ (ts : List Token). with_tokens ([], []) ts) (sym (same ∙ whole.told)) ∙ got in
    subst (λ (held : List ℕ × List FileBytes). IsFrame text held.0 held.1) held whole.is
