-- What a lane is handed in a tick is a number of sixty-four bits.
use Rattle.std.proofs.Common.{◌≡◌, ℕ, zero, suc, ◌+◌, ◌*◌, ◌^◌, ◌<◌, false, List, [], ◌∷◌, map, fold, get_or, slice_index, Option, Some, None, ap, arith}
use Rattle.std.proofs.lemmas.Bool.{cond-false}
use Rattle.std.proofs.Math.Pow.{pow_pos}
use Rattle.link_params.specs.Laws.{is_b}
use Rattle.link_params.specs.Numbers.{octets_per_tick}
use Rattle.scenario.specs.Plans.{Plan, numbers_from}
use Rattle.link_model.specs.Sends.{data_place, frames_before, handed_to, octet_of}
use Rattle.link_model.specs.Run.{moment, run}
use Rattle.lane_c.specs.Received.{lanes_c}
use Rattle.link_model.specs.Sessions.{at}
use Rattle.link_laws.proofs.SmallOctets.{frame-small}

mapped-below : {A : Type 0} (xs : List A) (k b : ℕ) (f : A → ℕ) → 0 < b → ((x : A) → f x < b)
    → get_or (map f xs) k 0 < b
mapped-below [] k b f some small = some
mapped-below (x ∷ xs) zero b f some small = small x
mapped-below (x ∷ xs) (suc k) b f some small = mapped-below xs k b f some small

eight : (s : Plan) (before x lane : ℕ)
    → fold (λ v j. 256 * v + octet_of s before x lane j) 0 (numbers_from 0 8) < 2 ^ 64
unfolding numbers_from
eight s before x lane =
    let p = s.link.params in
    let a : octet_of s before x lane 0 < 256 = frame-small p _ _ in
    let b : octet_of s before x lane 1 < 256 = frame-small p _ _ in
    let c : octet_of s before x lane 2 < 256 = frame-small p _ _ in
    let d : octet_of s before x lane 3 < 256 = frame-small p _ _ in
    let e : octet_of s before x lane 4 < 256 = frame-small p _ _ in
    let f : octet_of s before x lane 5 < 256 = frame-small p _ _ in
    let g : octet_of s before x lane 6 < 256 = frame-small p _ _ in
    let h : octet_of s before x lane 7 < 256 = frame-small p _ _ in
    sum_below (octet_of s before x lane 0) (octet_of s before x lane 1) (octet_of s before x lane 2)
    (octet_of s before x lane 3)
    (octet_of s before x lane 4) (octet_of s before x lane 5) (octet_of s before x lane 6)
    (octet_of s before x lane 7) a b c d e f g h
  where
    sum_below : (a b c d e f g h : ℕ) → a < 256 → b < 256 → c < 256 → d < 256 → e < 256 → f < 256
        → g < 256 → h < 256
        → 256 * (256 * (256 * (256 * (256 * (256 * (256 * (256 * 0 + a) + b) + c) + d) + e) + f)
        + g) + h < 2 ^ 64
    sum_below a b c d e f g h la lb lc ld le lf lg lh = omega arith

handed-to-below : (s : Plan) (before : ℕ) (place : Option ℕ) (lane : ℕ)
    → is_b s.link.params.mode ≡ false → handed_to s before place lane < 2 ^ 64
unfolding handed_to
handed-to-below s before None lane mode = pow_pos 64
handed-to-below s before (Some x) lane mode =
    let n : octets_per_tick s.link.params ≡ 8 = cond-false (is_b s.link.params.mode) 1 8 mode in
    let is : fold (λ v j. 256 * v + octet_of s before x lane j) 0
    (numbers_from 0 (octets_per_tick s.link.params))
    ≡ fold (λ v j. 256 * v + octet_of s before x lane j) 0 (numbers_from 0 8) =
    ap (λ (m : ℕ). fold (λ v j. 256 * v + octet_of s before x lane j) 0 (numbers_from 0 m)) n in
    let below = eight s before x lane in
    omega (arith, is, below)

pub handed-below : (s : Plan) (q lane : ℕ) → is_b s.link.params.mode ≡ false
    → slice_index (at lanes_c s q).handed lane < 2 ^ 64
unfolding moment
handed-below s q lane mode =
    let h = run lanes_c s q in
    mapped-below (numbers_from 0 s.link.params.l) lane (2 ^ 64)
    (handed_to s (frames_before h) (data_place (at lanes_c s q).order)) (pow_pos 64)
    (λ l. handed-to-below s (frames_before h) (data_place (at lanes_c s q).order) l mode)
