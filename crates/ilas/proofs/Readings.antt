-- The configuration octets that a check keeps.
use Rattle.std.proofs.Common.{◌≡◌, ℕ, suc, ◌+◌, ◌-◌, nat_le, nat_lt, ◌&&◌, true, false, List, [], ◌∷◌, ◌++◌, length, take, drop, map, set, refl, sym, ◌∙◌, ap, inl, inr, arith, length-append, length-drop, length-set, drop_of_length-le, take_all, take-suc-set}
use Rattle.std.proofs.lemmas.Bool.{cases_Bool, cases_lt, le-leb, lt-ltb, le-ltb}
use Rattle.std.proofs.lemmas.List.{drop-append-le}
use Rattle.link_params.specs.declared.fields.Params.{Params}
use Rattle.link_params.specs.Numbers.{period}
use Rattle.code_8b10b.specs.declared.character.Reading.{Reading}
use Rattle.ilas.specs.Checked.{config_read}
use Rattle.ilas.specs.kept.Checks.{kept}
use Rattle.ilas.proofs.Faults.{config_read-append}
use Rattle.code_8b10b.specs.Reads.{octet_read}

map-snoc : (xs : List Reading) (r : Reading) → map octet_read (xs ++ r ∷ []) ≡ map octet_read xs ++ octet_read r ∷ []
map-snoc [] r = refl
map-snoc (x ∷ xs) r = ap (λ ys. octet_read x ∷ ys) (map-snoc xs r)

kept-length : (octets : List ℕ) (x first : ℕ) (r : Reading) → length octets ≡ 14 → length (kept octets x first r) ≡ 14
kept-length octets x first r fourteen = elim (cases_Bool (nat_le first x && nat_lt x (first + 14))) [
  | inl here ↦ rw here (length-set octets (x - first) (octet_read r) ∙ fourteen)
  | inr outside ↦ rw outside fourteen
]

-- what is kept after one reading more
pub kept-more : (p : Params) (rs : List Reading) (r : Reading) (octets : List ℕ) → length octets ≡ 14
    → take (length rs - (period p + 2)) octets ≡ config_read p rs
    → take (length rs + 1 - (period p + 2)) (kept octets (length rs) (period p + 2) r) ≡ config_read p (rs ++ r ∷ [])
kept-more p rs r octets fourteen h =
    let first : ℕ = period p + 2 in
    let x : ℕ = length rs in
    let long : length (rs ++ r ∷ []) ≡ x + 1 = length-append rs (r ∷ []) in
    elim (cases_lt x first) [
      | inl early ↦
          let none : x + 1 - first ≡ 0 = omega arith in
          let nothing : drop first (rs ++ r ∷ []) ≡ [] = drop_of_length-le (rs ++ r ∷ []) (omega arith) in
          rw (none, nothing) refl
      | inr begun ↦ elim (cases_lt x (first + 14)) [
        | inl within ↦
            let test : (nat_le first x && nat_lt x (first + 14)) ≡ true = rw (le-leb first x begun, lt-ltb x (first + 14) within) refl in
            let i : ℕ = x - first in
            let next : x + 1 - first ≡ suc i = omega arith in
            let split : drop first (rs ++ r ∷ []) ≡ drop first rs ++ r ∷ [] = drop-append-le first rs (r ∷ []) begun in
            let few : length (drop first rs) ≡ i = length-drop first rs in
            let more : length (drop first rs ++ r ∷ []) ≡ i + 1 = length-append (drop first rs) (r ∷ []) ∙ ap (λ n. n + 1) few in
            let old : take 14 (drop first rs) ≡ drop first rs = take_all 14 (drop first rs) (omega arith) in
            let new : take 14 (drop first rs ++ r ∷ []) ≡ drop first rs ++ r ∷ [] = take_all 14 (drop first rs ++ r ∷ []) (omega arith) in
            let was : take i octets ≡ map octet_read (drop first rs) = h ∙ ap (map octet_read) old in
            let stored : take (suc i) (set octets i (octet_read r)) ≡ take i octets ++ octet_read r ∷ [] = take-suc-set octets i (octet_read r) (omega arith) in
            rw (test, next, split, new, map-snoc (drop first rs) r) (stored ∙ ap (λ ys. ys ++ octet_read r ∷ []) was)
        | inr past ↦
            let test : (nat_le first x && nat_lt x (first + 14)) ≡ false = rw (le-leb first x begun, le-ltb x (first + 14) past) refl in
            let whole : take (x + 1 - first) octets ≡ octets = take_all (x + 1 - first) octets (omega arith) in
            let before : take (x - first) octets ≡ octets = take_all (x - first) octets (omega arith) in
            rw (test, whole, config_read-append p rs (r ∷ []) (omega arith)) (sym before ∙ h)
      ]
    ]

-- all fourteen are kept where the last one came
pub kept-all : (p : Params) (rs : List Reading) (r : Reading) (octets : List ℕ) → length octets ≡ 14
    → take (length rs - (period p + 2)) octets ≡ config_read p rs → length rs ≡ period p + 15
    → config_read p (rs ++ r ∷ []) ≡ kept octets (length rs) (period p + 2) r
kept-all p rs r octets fourteen h last =
    let first : ℕ = period p + 2 in
    let e : length rs + 1 - first ≡ 14 = omega arith in
    let long : length (kept octets (length rs) first r) ≡ 14 = kept-length octets (length rs) first r fourteen in
    sym (kept-more p rs r octets fourteen h) ∙ rw e (take_all 14 (kept octets (length rs) first r) (omega arith))
