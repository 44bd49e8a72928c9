-- The place of the next data octet.
use Rattle.std.proofs.Common.{◌≡◌, ℕ, ◌%◌, ◌<◌, ◌≤◌, length, Option, Some, None, sym, ◌∙◌, ap, arith}
use Rattle.std.proofs.lemmas.Nat.{mod_below}
use Rattle.link_params.specs.declared.fields.Params.{Params}
use Rattle.link_params.specs.Numbers.{period}
use Rattle.char_replace.specs.kept.Ends.{Sender as Replacer}
use Rattle.lane_b.specs.kept.Senders.{HasPlace}

-- it is below the period
pub place-below : (p : Params) (replace : Replacer) (next : Option ℕ) (x n : ℕ)
    → HasPlace p replace next → next ≡ Some x → n ≡ period p → 17 ≤ n → x < n
place-below p replace None x n h e same low = cc
place-below p replace (Some y) x n h e same low =
    let is : y ≡ x = cc in
    let at = h.place in
    let b = mod_below (length h.octets) n (omega arith) in
    let z : x ≡ length h.octets % n =
    sym is ∙ at ∙ ap (λ (k : ℕ). length h.octets % k) (sym same) in
    omega arith
