-- The octets that the lanes are handed of the frames that enter, and the times at which these
-- enter.
use Rattle.std.proofs.Common.{◌≡◌, ℕ, ◌+◌, ◌-◌, ◌*◌, ◌/◌, ◌<◌, ◌≤◌, ◌%◌, List, length, map, filter, slice_index, Some, None, refl, ap, ap₂, ◌∙◌, arith}
use Rattle.std.proofs.lemmas.List.{get_or-map}
use Rattle.std.proofs.lemmas.Nat.{div-mul-add}
use Rattle.link_params.specs.Laws.{broken_law}
use Rattle.link_params.specs.Lanes.{LaneKind}
use Rattle.link_params.specs.Numbers.{octets_per_tick, period}
use Rattle.sample_map.specs.Frames.{frame_of}
use Rattle.scenario.specs.Plans.{Plan, numbers_from, source_frame}
use Rattle.link_model.specs.Sends.{begins_frame, data_place, frames_before, handed_to, octet_of}
use Rattle.link_model.specs.Run.{moment, run}
use Rattle.link_model.proofs.NumberLists.{get_or-numbers, length-numbers}
use Rattle.link_model.specs.Sessions.{at}
use Rattle.link_laws.proofs.FramesEnter.{begun-before, begun_in, count-from, first_frame, same-places}

handed-at : (kind : LaneKind) (s : Plan) (t : ℕ)
    → (at kind s t).handed
    ≡ map (handed_to s (frames_before (run kind s t)) (data_place (at kind s t).order))
    (numbers_from 0 s.link.params.l)
unfolding moment
handed-at kind s t = refl

-- what a lane is handed in tick t
pub handed-lane : (kind : LaneKind) (s : Plan) (t lane : ℕ) → lane < s.link.params.l
    → slice_index (at kind s t).handed lane ≡ handed_to s (frames_before (run kind s t))
    (data_place (at kind s t).order) lane
handed-lane kind s t lane below =
    let long = length-numbers s.link.params.l 0 in
    let same : 0 + lane ≡ lane = omega arith in
    ap (λ (l : List ℕ). slice_index l lane) (handed-at kind s t)
    ∙ get_or-map (handed_to s (frames_before (run kind s t)) (data_place (at kind s t).order))
    (numbers_from 0 s.link.params.l) lane 0 0 (omega arith)
    ∙ ap (handed_to s (frames_before (run kind s t)) (data_place (at kind s t).order))
    (get_or-numbers s.link.params.l lane 0 0 below ∙ same)

-- the number of frames begun up to an octet is one more than the number of the octet's frame
pub begun-up-to : (f x : ℕ) → 0 < f → begun_in f (x + 1) ≡ x / f + 1
begun-up-to f x some =
    let small : x % f < f = omega arith in
    let parts : f * (x / f) + x % f ≡ x = omega arith in
    let sum : x + 1 + (f - 1) ≡ (x / f + 1) * f + x % f = omega arith in
    ap (λ (n : ℕ). n / f) sum ∙ div-mul-add (x / f + 1) f (x % f) small

-- data from tick d on
module _ (kind : LaneKind) (s : Plan) (d t : ℕ) (legal : broken_law s.link.params ≡ None)
    (some : 0 < s.link.params.f)
    (places : (j : ℕ) → d + j ≤ t
    → data_place (at kind s (d + j)).order ≡ Some (j % period s.link.params)) where
  -- octet i of tick j of the data, before it is put into a number
  pub octet-is : (lane j i : ℕ) → i < octets_per_tick s.link.params → d + j ≤ t
      → octet_of s (frames_before (run kind s (d + j))) (j % period s.link.params) lane i
      ≡ (let x : ℕ = octets_per_tick s.link.params * j + i in
      slice_index
      (frame_of s.link.params
      (source_frame s (first_frame kind s d t legal some places + x / s.link.params.f)))
      (lane * s.link.params.f + x % s.link.params.f))
  octet-is lane j i inside up =
      let p = s.link.params in
      let c : ℕ = octets_per_tick p in
      let x : ℕ = c * j + i in
      let n : ℕ = first_frame kind s d t legal some places in
      let before = begun-before kind s d t legal some places j (omega arith) in
      let count = count-from (i + 1) p (j % period p) (c * j) 0 some
      (λ k. same-places p j k legal) in
      let start : c * j + 0 ≡ c * j = omega arith in
      let start_begun = ap (begun_in p.f) start in
      let end : c * j + 0 + (i + 1) ≡ x + 1 = omega arith in
      let end_begun = ap (begun_in p.f) end ∙ begun-up-to p.f x some in
      let number : frames_before (run kind s (d + j)) + length
      (filter (begins_frame p (j % period p)) (numbers_from 0 (i + 1))) - 1 ≡ n + x / p.f =
      omega arith in
      ap₂ (λ (q k : ℕ). slice_index (frame_of p (source_frame s q)) (lane * p.f + k)) number
      (same-places p j i legal)
