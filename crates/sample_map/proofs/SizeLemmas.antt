-- The sizes of a legal link's groups.
use Rattle.std.proofs.Common.{◌≡◌, ℕ, ◌*◌, ◌/◌, ◌%◌, ◌<◌, ◌≤◌, inl, inr, None, arith}
use Rattle.std.proofs.Math.Nat.{mul-le-mul_right, div-le_self}
use Rattle.std.proofs.lemmas.Bool.{cases_Bool, cases_lt}
use Rattle.link_params.specs.declared.fields.Params.{Params}
use Rattle.link_params.specs.Laws.{broken_law, ceil}
use Rattle.link_params.proofs.LawFacts.{legal_sizes}
use Rattle.sample_map.specs.kept.Groups.{Grouping, grouping, groups}

-- so many groups hold the words and octets of a frame
pub record AreGroups (g : Grouping) (count : ℕ) (words octets : ℕ) : Type 0 where
  pub words_some : 0 < g.words
  pub words_few : g.words ≤ 8192
  pub octets_some : 0 < g.octets
  pub octets_few : g.octets ≤ 8192
  pub width_few : g.width ≤ 32
  pub used_some : 0 < g.used
  pub used_fit : g.used ≤ g.width
  pub words_fit : g.words * g.width ≤ 8 * g.octets
  pub all_words : count * g.words ≡ words
  pub all_octets : count * g.octets ≡ octets

ceil-fits : (a b : ℕ) → 0 < b → a ≤ b * ceil a b
ceil-fits a b some = omega arith

product-some : (a b : ℕ) → 1 ≤ a → 1 ≤ b → 1 ≤ a * b
product-some a b x y = let h : 1 * b ≤ a * b = mul-le-mul_right b x in omega arith

product-few : (a b m n : ℕ) → a ≤ m → b ≤ n → a * b ≤ m * n
product-few a b m n x y = let h : a * b ≤ m * b = mul-le-mul_right b x in let k : b * m ≤ n * m = mul-le-mul_right m y in omega arith

quotient-whole : (a b : ℕ) → 0 < b → a % b ≡ 0 → b * (a / b) ≡ a
quotient-whole a b some whole = omega arith

quotient-some : (a b : ℕ) → 0 < b → a % b ≡ 0 → 0 < a → 0 < a / b
quotient-some a b some whole few = elim (cases_lt 0 (a / b)) [
  | inl lt ↦ lt
  | inr le ↦ let e : a / b ≡ 0 = omega arith in let w = quotient-whole a b some whole in let z : b * 0 ≡ a = rw e at w in omega arith
]

pub groups_fit : (p : Params) → broken_law p ≡ None → AreGroups (grouping p) (groups p) (p.m * p.s) (p.l * p.f)
groups_fit p legal =
    let z = legal_sizes p legal in
    let w = product-some p.m p.s z.m_low z.s_low in
    let o = product-some p.l p.f z.l_low z.f_low in
    let most_w = product-few p.m p.s 256 32 z.m z.s in
    let most_o = product-few p.l p.f 32 256 z.l z.f in
    let low = z.n_low in
    let np = z.np in
    let word = z.word in
    let few = z.f in
    let some = z.f_low in
    elim (cases_Bool p.hd) [
      | inl t ↦
          let due : p.f ≡ ceil (p.m * p.s * p.np) (8 * p.l) = rw t at z.octets in
          let l = z.l_low in
          let fits = ceil-fits (p.m * p.s * p.np) (8 * p.l) (omega arith) in
          let fits_f : p.m * p.s * p.np ≤ 8 * p.l * p.f = rw (← due) at fits in
          rw t (record {
            words_some = omega arith;
            words_few = omega arith;
            octets_some = omega arith;
            octets_few = omega arith;
            width_few = np;
            used_some = omega arith;
            used_fit = word;
            words_fit = omega arith;
            all_words = omega arith;
            all_octets = omega arith;
          })
      | inr f ↦
          let due : p.f ≡ ceil (p.m * p.s / p.l * p.np) 8 = rw f at z.octets in
          let whole = z.whole_words f in
          let fits = ceil-fits (p.m * p.s / p.l * p.np) 8 (omega arith) in
          let fits_f : p.m * p.s / p.l * p.np ≤ 8 * p.f = rw (← due) at fits in
          let all = quotient-whole (p.m * p.s) p.l z.l_low whole in
          let q = quotient-some (p.m * p.s) p.l z.l_low whole w in
          let le = div-le_self (p.m * p.s) p.l in
          rw f (record {
            words_some = q;
            words_few = omega arith;
            octets_some = omega arith;
            octets_few = omega arith;
            width_few = np;
            used_some = omega arith;
            used_fit = word;
            words_fit = fits_f;
            all_words = all;
            all_octets = omega arith;
          })
    ]
