-- Configuration octets as the code writes and sums them.
use Rattle.std.proofs.Common.{◌≡◌, ℕ, ◌+◌, ◌-◌, ◌*◌, ◌%◌, List, [], ◌∷◌, sym, ◌∙◌, ap, refl, arith}
use Rattle.std.specs.List.{sum}
use Rattle.link_params.specs.declared.fields.Params.{Params}
use Rattle.link_params.specs.declared.config.Config.{Config}
use Rattle.link_params.specs.Config.{one_if, octet_of, fields, sent_values, config_octets, read_values, config_of}

-- the fourteen octets
pub config_octets-is : (p : Params) (lane scr hd : ℕ) → scr ≡ one_if p.scr → hd ≡ one_if p.hd
    → (0 ∷ 0 ∷ lane ∷ (128 * scr + (p.l - 1)) ∷ (p.f - 1) ∷ (p.k - 1) ∷ (p.m - 1) ∷ (64 * p.cs + (p.n - 1)) ∷ (32 + (p.np - 1))
    ∷ (32 + (p.s - 1)) ∷ 128 * hd ∷ 0 ∷ 0
    ∷ (lane + scr + (p.l - 1) + (p.f - 1) + (p.k - 1) + (p.m - 1) + p.cs + (p.n - 1) + 1 + (p.np - 1) + 1 + (p.s - 1) + hd) % 256 ∷ [])
    ≡ config_octets p lane
unfolding config_octets sent_values fields
config_octets-is p lane scr hd a b =
    let vs = sent_values p lane in
    let e0 : 0 ≡ octet_of fields vs 0 = omega arith in
    let e1 : 0 ≡ octet_of fields vs 1 = omega arith in
    let e2 : lane ≡ octet_of fields vs 2 = omega arith in
    let e3 : 128 * scr + (p.l - 1) ≡ octet_of fields vs 3 = omega arith in
    let e4 : p.f - 1 ≡ octet_of fields vs 4 = omega arith in
    let e5 : p.k - 1 ≡ octet_of fields vs 5 = omega arith in
    let e6 : p.m - 1 ≡ octet_of fields vs 6 = omega arith in
    let e7 : 64 * p.cs + (p.n - 1) ≡ octet_of fields vs 7 = omega arith in
    let e8 : 32 + (p.np - 1) ≡ octet_of fields vs 8 = omega arith in
    let e9 : 32 + (p.s - 1) ≡ octet_of fields vs 9 = omega arith in
    let e10 : 128 * hd ≡ octet_of fields vs 10 = omega arith in
    let e11 : 0 ≡ octet_of fields vs 11 = omega arith in
    let e12 : 0 ≡ octet_of fields vs 12 = omega arith in
    let e13 : lane + scr + (p.l - 1) + (p.f - 1) + (p.k - 1) + (p.m - 1) + p.cs + (p.n - 1) + 1 + (p.np - 1) + 1 + (p.s - 1) + hd ≡ sum vs = omega arith in
    cc

sum-values : (c : Config) → sum (c.did ∷ c.adjcnt ∷ c.bid ∷ c.adjdir ∷ c.phadj ∷ c.lid ∷ c.scr ∷ c.l ∷ c.f ∷ c.k ∷ c.m ∷ c.cs ∷ c.n ∷ c.subclass ∷ c.np ∷ c.version ∷ c.s ∷ c.hd ∷ c.cf ∷ [])
    ≡ c.did + c.adjcnt + c.bid + c.adjdir + c.phadj + c.lid + c.scr + c.l + c.f + c.k + c.m + c.cs + c.n + c.subclass + c.np + c.version + c.s + c.hd + c.cf
sum-values c = omega arith

read_values-is : (c : Config) (octets : List ℕ) → c ≡ config_of (read_values octets)
    → read_values octets ≡ c.did ∷ c.adjcnt ∷ c.bid ∷ c.adjdir ∷ c.phadj ∷ c.lid ∷ c.scr ∷ c.l ∷ c.f ∷ c.k ∷ c.m ∷ c.cs ∷ c.n ∷ c.subclass ∷ c.np ∷ c.version ∷ c.s ∷ c.hd ∷ c.cf ∷ []
unfolding config_of read_values fields
read_values-is c octets e = rw e refl

-- the sum of the fields that were read
pub sum-read_values : (c : Config) (octets : List ℕ) → c ≡ config_of (read_values octets)
    → c.did + c.adjcnt + c.bid + c.adjdir + c.phadj + c.lid + c.scr + c.l + c.f + c.k + c.m + c.cs + c.n + c.subclass + c.np + c.version + c.s + c.hd + c.cf ≡ sum (read_values octets)
sum-read_values c octets e = sym (sum-values c) ∙ ap sum (sym (read_values-is c octets e))
