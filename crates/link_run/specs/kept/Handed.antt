-- What lanes were handed of a tick so far.
-- Code: a number for each lane, with the octets of one frame behind it at a time.
use Rattle.std.specs.Prelude.{◌≡◌, ◌≤◌, ℕ, zero, suc, ◌+◌, ◌*◌, List, map, filter, fold, length, get_or, slice_index, take, drop, Some}
use Rattle.link_params.specs.declared.fields.Params.{Params}
use Rattle.scenario.specs.declared.scenario_type.Scenario.{Scenario}
use Rattle.scenario.specs.Plans.{Plan, numbers_from, plan_of}
use Rattle.link_model.specs.Sends.{begins_frame, octet_of}
use Rattle.link_run.specs.kept.Seen.{Fed, HasFed}

-- the numbers that lanes are handed, with octet `at` of a frame of `size` octets behind each
abbrev pub with_octet : List ℕ → ℕ → ℕ → List ℕ → List ℕ
with_octet octets size at handed =
    map (λ lane. get_or handed lane 0 * 256 + slice_index octets (lane * size + at))
    (numbers_from 0 (length handed))

-- with so many octets from octet `at` on behind each
abbrev pub with_octets : List ℕ → ℕ → ℕ → ℕ → List ℕ → List ℕ
with_octets octets size at zero handed = handed
with_octets octets size at (suc n) handed =
    with_octets octets size (suc at) n (with_octet octets size at handed)

-- with all octets of n frames behind each, one frame after the other; a frame has `size` octets on
-- a lane and `all` octets
abbrev pub with_frames : List ℕ → ℕ → ℕ → ℕ → List ℕ → List ℕ
with_frames octets size all zero handed = handed
with_frames octets size all (suc n) handed =
    with_octets (take all (drop (n * all) octets)) size 0 size
    (with_frames octets size all n handed)

-- how many frames begin with the first j octets of a tick at this place
abbrev pub begun_in : Params → ℕ → ℕ → ℕ
begun_in p x j = length (filter (begins_frame p x) (numbers_from 0 j))

-- the first j octets of a lane, as one number
abbrev pub octets_to : Plan → ℕ → ℕ → ℕ → ℕ → ℕ
octets_to s n x j lane = fold (λ v i. 256 * v + octet_of s n x lane i) 0 (numbers_from 0 j)

-- the first j octets of the tick were handed: where the feed had begun n frames before it, the
-- numbers are those of their lanes
pub record Hands (scenario : Scenario) (old now : Fed) (x j : ℕ) (handed : List ℕ) : Type 0 where
  pub params : now.params ≡ old.params
  pub frames : now.frames ≡ old.frames
  pub count : now.begun ≤ old.begun + j
  pub lanes : length handed ≡ old.params.l
  pub fed : (s : Plan) (n : ℕ) → plan_of scenario ≡ Some s → HasFed old s n
      → HasFed now s (n + begun_in s.link.params x j)
  pub handed_is : (s : Plan) (n : ℕ) → plan_of scenario ≡ Some s → HasFed old s n
      → handed ≡ map (octets_to s n x j) (numbers_from 0 s.link.params.l)
