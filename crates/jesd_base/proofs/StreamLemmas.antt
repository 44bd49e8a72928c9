-- Bytes given in turn.
use Rattle.std.proofs.Common.{◌≡◌, ℕ, List, [], ◌++◌, ◌+◌, ◌-◌, ◌≤◌, Option, Some, None, sym, ◌∙◌, ap, refl, append_assoc, length, take, drop, arith, length-drop}
use Rattle.std.proofs.lemmas.List.{take_at, drop-drop, take-append-drop, length-take}
use Rattle.jesd_base.specs.Streams.{Gave, IsAtEnd, Added}

pub gave-append : (a b c : Option (List ℕ)) (xs ys : List ℕ) → Gave a b xs → Gave b c ys → Gave a c (xs ++ ys)
gave-append (Some a) (Some b) (Some c) xs ys p q = p ∙ (ap (λ t. xs ++ t) q ∙ sym (append_assoc xs ys c))
gave-append (Some a) (Some b) None xs ys p q = q
gave-append (Some a) None c xs ys p q = absurd p
gave-append None (Some b) c xs ys p q = let bad : Some b ≡ None = p in absurd (cc bad)
gave-append None None c xs ys p q = q

pub gave-nothing : (a : Option (List ℕ)) → Gave a a []
gave-nothing (Some a) = refl
gave-nothing None = refl

-- nothing was given at the end: nothing is left
pub at_end-after : (a b : Option (List ℕ)) → Gave a b [] → IsAtEnd a → IsAtEnd b
at_end-after (Some a) (Some b) p q = sym p ∙ q
at_end-after (Some a) None p q = absurd p
at_end-after None (Some b) p q = let bad : Some b ≡ None = p in absurd (cc bad)
at_end-after None None p q = tt

-- n bytes from a place on were copied to the front of a buffer
pub piece-given : (at n : ℕ) (all x buf : List ℕ) → at + n ≤ length all → x ≡ take ((at + n) - at) (drop at all)
    → drop at all ≡ take n (x ++ drop n buf) ++ drop (at + n) all
piece-given at n all x buf fits is =
    let e : (at + n) - at ≡ n = omega arith in
    let x_is : x ≡ take n (drop at all) = rw e at is in
    let len : length x ≡ n = rw x_is (simp (length-take, length-drop) (omega arith)) in
    rw (take_at x (drop n buf) n len, x_is) (rw (← drop-drop n at all) (sym (take-append-drop n (drop at all))))

pub added-append : (a b c : Option (List ℕ)) (xs ys : List ℕ) → Added a b xs → Added b c ys → Added a c (xs ++ ys)
added-append (Some a) (Some b) (Some c) xs ys p q = q ∙ (ap (λ t. t ++ ys) p ∙ append_assoc a xs ys)
added-append (Some a) (Some b) None xs ys p q = q
added-append (Some a) None c xs ys p q = absurd p
added-append None (Some b) c xs ys p q = let bad : Some b ≡ None = p in absurd (cc bad)
added-append None None c xs ys p q = q
