-- Lanes one after another, and lists of lanes put together.
use Rattle.std.proofs.Common.{◌≡◌, ◌≢◌, ℕ, zero, suc, ◌+◌, ◌<◌, Bool, List, [], ◌∷◌, ◌++◌, length, get_or, set, subst, inl, inr, sym, ◌∙◌, arith}
use Rattle.std.proofs.lemmas.Bool.{cases_lt}
use Rattle.std.proofs.lemmas.List.{get_or-set_same, get_or-set_other, get_or_default}
use Rattle.lane_threads.specs.declared.lane_pair.LanePair.{LanePair}
use Rattle.lane_threads.specs.declared.step.Step.{Step}
use Rattle.lane_threads.specs.Segments.{CanRun, EachCanRun, EachHasRun, HasRun}
use Rattle.lane_threads.specs.laws.SegmentLaws.{KeepsPairs, LanesGoOn}

pub has-run-append : (steps : List Step) (gives : Bool) (old new more after : List LanePair)
    → EachHasRun steps gives old new → EachHasRun steps gives more after
    → EachHasRun steps gives (old ++ more) (new ++ after)
has-run-append steps gives [] [] more after h k = k
has-run-append steps gives (a ∷ old) (b ∷ new) more after h k =
    (h.0, has-run-append steps gives old new more after h.1 k)
has-run-append steps gives [] (b ∷ new) more after h k = absurd h
has-run-append steps gives (a ∷ old) [] more after h k = absurd h

pub has-run-joined : (steps : List Step) (gives : Bool) (all old more new after : List LanePair)
    → all ≡ old ++ more → EachHasRun steps gives old new → EachHasRun steps gives more after
    → EachHasRun steps gives all (new ++ after)
has-run-joined steps gives all old more new after e h k =
    rw e (has-run-append steps gives old new more after h k)

pub has-run-by-lane : (steps : List Step) (gives : Bool) (old new : List LanePair)
    → length new ≡ length old
    → ((k : ℕ) (d : LanePair) → k < length old
    → HasRun steps gives (get_or old k d) (get_or new k d))
    → EachHasRun steps gives old new
has-run-by-lane steps gives [] [] e h = tt
has-run-by-lane steps gives (a ∷ old) (b ∷ new) e h = (
  h 0 a (omega arith),
  has-run-by-lane steps gives old new (omega arith) (λ k d below. h (suc k) d (omega arith)),
)
has-run-by-lane steps gives [] (b ∷ new) e h = absurd (omega arith)
has-run-by-lane steps gives (a ∷ old) [] e h = absurd (omega arith)

pub can-run-at : (steps : List Step) (gives : Bool) (lanes : List LanePair) (k : ℕ) (d : LanePair)
    → EachCanRun steps gives lanes → k < length lanes → CanRun steps gives (get_or lanes k d)
can-run-at steps gives [] k d h below = absurd (omega arith)
can-run-at steps gives (a ∷ lanes) zero d h below = h.0
can-run-at steps gives (a ∷ lanes) (suc k) d h below =
    can-run-at steps gives lanes k d h.1 (omega arith)

can-run-split : (steps : List Step) (gives : Bool) (front back : List LanePair)
    → EachCanRun steps gives (front ++ back)
    → EachCanRun steps gives front × EachCanRun steps gives back
can-run-split steps gives [] back h = (tt, h)
can-run-split steps gives (a ∷ front) back h =
    let r = can-run-split steps gives front back h.1 in ((h.0, r.0), r.1)

pub can-run-front : (steps : List Step) (gives : Bool) (all front back : List LanePair)
    → all ≡ front ++ back → EachCanRun steps gives all → EachCanRun steps gives front
can-run-front steps gives all front back e h =
    (can-run-split steps gives front back (rw e at h)).0

pub can-run-back : (steps : List Step) (gives : Bool) (all front back : List LanePair)
    → all ≡ front ++ back → EachCanRun steps gives all → EachCanRun steps gives back
can-run-back steps gives all front back e h =
    (can-run-split steps gives front back (rw e at h)).1

-- the step of a loop that runs one lane after the other
pub run-lanes-more : (steps : List Step) (gives : Bool) (old new : List LanePair) (i : ℕ)
    (b e : LanePair) → i < length new → length new ≡ length old
    → ((k : ℕ) (d : LanePair) → k < i → HasRun steps gives (get_or old k d) (get_or new k d))
    → HasRun steps gives (get_or old i e) b
    → (k : ℕ) (d : LanePair) → k < i + 1
    → HasRun steps gives (get_or old k d) (get_or (set new i b) k d)
run-lanes-more steps gives old new i b e below same earlier here k d small = elim (cases_lt k i) [
  | inl before ↦ let apart : k ≢ i = λ is. omega arith in
      rw (get_or-set_other new i k b d apart) (earlier k d before)
  | inr top ↦
      let z : k ≡ i = omega arith in
      rw (z, get_or-set_same new i b d below)
      (subst (λ (x : LanePair). HasRun steps gives x b) (get_or_default old i e d (omega arith)) here)
]

pub has-run-at : (steps : List Step) (gives : Bool) (old new : List LanePair) (k : ℕ)
    (d : LanePair) → EachHasRun steps gives old new → k < length old
    → HasRun steps gives (get_or old k d) (get_or new k d)
has-run-at steps gives [] new k d h below = absurd (omega arith)
has-run-at steps gives (a ∷ old) [] k d h below = absurd h
has-run-at steps gives (a ∷ old) (b ∷ new) zero d h below = h.0
has-run-at steps gives (a ∷ old) (b ∷ new) (suc k) d h below =
    has-run-at steps gives old new k d h.1 (omega arith)

pub lanes-go-on : LanesGoOn
lanes-go-on steps gives old new s runs each before lane d below =
    (has-run-at steps gives old new lane d each below).lane s lane (runs lane)
    (before lane d below)

pub keeps-pairs : KeepsPairs
keeps-pairs steps gives a b end h pair =
    let r = h.ring.0 in
    (pair.0 ∙ sym r.0, pair.1 ∙ sym r.1, pair.2 ∙ sym r.2, pair.3 ∙ sym r.3)
