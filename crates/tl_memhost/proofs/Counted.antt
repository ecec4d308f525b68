-- The counts of calls and of moments go on together.
use Rattle.std.proofs.Common.{◌≡◌, ℕ, zero, suc, length, refl, length-append, ◌+◌, ◌-◌, ◌^◌, ◌<◌, ◌≤◌, List, [], ◌∷◌, arith}
use Rattle.tl_model.specs.Seen.{Stretch, at_rest, moment}
use Rattle.tl_memhost.specs.Memory.{Standing, Step, Memory, moments, AreCounted, IsCounted, recorded, many, stretches, moment_of, seen}

pub more_short : (a b : ℕ) → a ≤ b → (ss : List Step) → AreCounted a ss → AreCounted b ss
more_short a b le [] all = tt
more_short a b le (s ∷ ss) all = (let first : s.call ≤ moments ss + s.rest + a = all.0 in omega arith, more_short a b le ss all.1)

pub counted_recorded : (m : Memory) (during : Stretch) (after : Standing) → IsCounted m → IsCounted (recorded m during after)
counted_recorded m during after counted = record {
  least = let h : m.calls ≤ moments m.steps + m.rest + m.short = counted.least in omega arith;
  most = λ below. (let h : moments m.steps + m.rest + m.short ≤ m.calls = counted.most (omega arith) in omega arith);
  each = (counted.least, counted.each);
}

pub length-many : (n : ℕ) (s : Stretch) → length (many n s) ≡ n
length-many zero s = refl
length-many (suc n) s = simp length-append (let h : length (many n s) ≡ n = length-many n s in omega arith)

pub length-stretches : (ss : List Step) → length (stretches ss) ≡ moments ss
length-stretches [] = refl
length-stretches (s ∷ ss) =
    let h : length (stretches ss) ≡ moments ss = length-stretches ss in
    let k : length (many s.rest (at_rest (moment_of s.before))) ≡ s.rest = length-many s.rest _ in
    simp length-append (omega arith)

pub moment-counted : (m : Memory) → moment (seen m) ≡ moments m.steps + m.rest
moment-counted m =
    let h : length (stretches m.steps) ≡ moments m.steps = length-stretches m.steps in
    let k : length (many m.rest (at_rest (moment_of m.present))) ≡ m.rest = length-many m.rest _ in
    simp length-append (omega arith)

pub calls_counted : (m : Memory) → IsCounted m → m.calls < 2 ^ 64 - 1 → moment (seen m) + m.short ≡ m.calls
calls_counted m counted below =
    let h : moment (seen m) ≡ moments m.steps + m.rest = moment-counted m in
    let least : m.calls ≤ moments m.steps + m.rest + m.short = counted.least in
    let most : moments m.steps + m.rest + m.short ≤ m.calls = counted.most below in
    omega arith
