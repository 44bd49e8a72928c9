-- The octets that 8b/10b lanes send are below 256: those of frames, scrambled ones and
-- configuration octets.
use Rattle.std.proofs.Common.{◌≡◌, ℕ, zero, suc, ◌+◌, ◌-◌, ◌*◌, ◌%◌, ◌^◌, ◌==◌, ◌<◌, ◌≤◌, Bool, true, false, List, [], ◌∷◌, fold, length, map, take, drop, get_or, slice_index, Option, Some, None, refl, ap, length-take, arith}
use Rattle.std.specs.List.{range_with_len}
use Rattle.std.proofs.Math.Nat.{mod-lt}
use Rattle.std.proofs.Math.Pow.{pow_mono}
use Rattle.std.proofs.lemmas.List.FromFn.{length-map-range_with_len}
use Rattle.jesd_base.specs.Bits.{value}
use Rattle.jesd_base.proofs.BitLemmas.{value_below}
use Rattle.link_params.specs.declared.fields.Mode.TheVariants.{B}
use Rattle.link_params.specs.declared.fields.Params.{Params}
use Rattle.link_params.specs.Config.{config_octets, one_if}
use Rattle.link_params.specs.Laws.{broken_law}
use Rattle.link_params.specs.Numbers.{octets_per_tick}
use Rattle.link_params.proofs.ConfigFacts.{config_octets-is}
use Rattle.link_params.proofs.LawFacts.{rooms}
use Rattle.sample_map.specs.Frames.{bit_due, frame_of, octet_due}
use Rattle.lane_b.specs.Sent.{octets_of}
use Rattle.lane_b.specs.Received.{lanes_b}
use Rattle.scenario.specs.Plans.{Plan, numbers_from}
use Rattle.link_model.specs.Moments.{History}
use Rattle.link_model.specs.Sends.{data_place, frames_before, handed_to, octet_of}
use Rattle.link_model.proofs.NextMoment.{lanes_of, handed-next, next}

-- at most eight bits have a number below 256
few-bits : (bs : List Bool) → length bs ≤ 8 → value bs < 256
few-bits bs few =
    let below = value_below bs in
    let most : 2 ^ length bs ≤ 2 ^ 8 = pow_mono few in
    let top : 2 ^ 8 ≡ 256 = refl in
    omega arith

mapped-small : {A : Type 0} (xs : List A) (k : ℕ) (f : A → ℕ) → ((x : A) → f x < 256)
    → get_or (map f xs) k 0 < 256
mapped-small [] k f small = omega arith
mapped-small (x ∷ xs) zero f small = small x
mapped-small (x ∷ xs) (suc k) f small = mapped-small xs k f small

-- octets of a list of bits
pub octets-small : (n : ℕ) (bs : List Bool) (k : ℕ) → get_or (octets_of n bs) k 0 < 256
unfolding octets_of
octets-small zero bs k = omega arith
octets-small (suc n) bs zero = let short = length-take 8 bs in few-bits (take 8 bs) (omega arith)
octets-small (suc n) bs (suc k) = octets-small n (drop 8 bs) k

eight-bits : (f : ℕ → Bool) → value (map f (range_with_len 0 8)) < 256
eight-bits f = let eight = length-map-range_with_len f 0 8 in few-bits (map f (range_with_len 0 8))
    (omega arith)

-- the octets of a frame
pub frame-small : (p : Params) (words : List ℕ) (k : ℕ) → get_or (frame_of p words) k 0 < 256
unfolding frame_of
frame-small p words k = mapped-small (range_with_len 0 (p.l * p.f)) k (octet_due p words)
    (λ x. eight-bits (λ j. bit_due p words (8 * x + j) == 1))

-- what a lane is handed in a tick
handed-to-small : (s : Plan) (before : ℕ) (place : Option ℕ) (lane : ℕ) → s.link.params.mode ≡ B
    → handed_to s before place lane < 256
unfolding handed_to numbers_from
handed-to-small s before None lane mode = omega arith
handed-to-small s before (Some x) lane mode =
    let p = s.link.params in
    let one : octets_per_tick p ≡ 1 = rw mode refl in
    let small : octet_of s before x lane 0 < 256 = frame-small p _ _ in
    let is : fold (λ v j. 256 * v + octet_of s before x lane j) 0
    (numbers_from 0 (octets_per_tick p)) ≡ 256 * 0 + octet_of s before x lane 0 =
    ap (λ (n : ℕ). fold (λ v j. 256 * v + octet_of s before x lane j) 0 (numbers_from 0 n)) one in
    omega arith

pub handed-small : (s : Plan) (h : History) (lane : ℕ) → s.link.params.mode ≡ B
    → slice_index (next lanes_b s h).handed lane < 256
handed-small s h lane mode =
    rw (handed-next lanes_b s h)
    (mapped-small (lanes_of s) lane
    (handed_to s (frames_before h) (data_place (next lanes_b s h).order))
    (λ l. handed-to-small s (frames_before h) (data_place (next lanes_b s h).order) l mode))

-- ---- configuration octets

abbrev AreSmall : List ℕ → Type 0
AreSmall [] = Unit {0}
AreSmall (x ∷ xs) = (x < 256) × AreSmall xs

small-at : (xs : List ℕ) (k : ℕ) → AreSmall xs → get_or xs k 0 < 256
small-at [] k small = omega arith
small-at (x ∷ xs) zero small = small.0
small-at (x ∷ xs) (suc k) small = small-at xs k small.1

one-if-small : (b : Bool) → one_if b ≤ 1
one-if-small true = omega arith
one-if-small false = omega arith

pub config-small : (p : Params) (lane k : ℕ) → broken_law p ≡ None → p.mode ≡ B → lane < p.l
    → get_or (config_octets p lane) k 0 < 256
config-small p lane k legal mode below =
    let r = rooms p legal (rw mode refl) in
    let l = r.l in
    let f = r.f in
    let frames = r.k in
    let m = r.m in
    let cs = r.cs in
    let n = r.n in
    let np = r.np in
    let samples = r.s in
    let scr = one-if-small p.scr in
    let hd = one-if-small p.hd in
    rw (← config_octets-is p lane (one_if p.scr) (one_if p.hd) refl refl) (small-at
    (0 ∷ 0 ∷ lane ∷ (128 * one_if p.scr + (p.l - 1)) ∷ (p.f - 1) ∷ (p.k - 1) ∷ (p.m - 1)
    ∷ (64 * p.cs + (p.n - 1)) ∷ (32 + (p.np - 1))
    ∷ (32 + (p.s - 1)) ∷ 128 * one_if p.hd ∷ 0 ∷ 0
    ∷ (lane + one_if p.scr + (p.l - 1) + (p.f - 1) + (p.k - 1) + (p.m - 1) + p.cs + (p.n - 1) + 1
    + (p.np - 1) + 1 + (p.s - 1) + one_if p.hd) % 256 ∷ [])
    k (
      omega arith,
      (
        omega arith,
        (
          omega arith,
          (
            omega arith,
            (
              omega arith,
              (
                omega arith,
                (
                  omega arith,
                  (
                    omega arith,
                    (
                      omega arith,
                      (
                        omega arith,
                        (
                          omega arith,
                          (
                            omega arith,
                            (
                              omega arith,
                              (
                                mod-lt
                                    (lane + one_if p.scr + (p.l - 1) + (p.f - 1) + (p.k - 1)
                                    + (p.m - 1) + p.cs + (p.n - 1) + 1 + (p.np - 1) + 1 + (p.s - 1)
                                    + one_if p.hd) (omega arith),
                                tt,
                              ),
                            ),
                          ),
                        ),
                      ),
                    ),
                  ),
                ),
              ),
            ),
          ),
        ),
      ),
    ))
