-- The counts with one reading more.
use Rattle.std.proofs.Common.{◌≡◌, ℕ, ◌*◌, ◌%◌, nat_le, min, ◌||◌, Bool, true, false, List, [], ◌∷◌, ◌++◌, Option, reverse, take, refl, sym, ◌∙◌, ap, ap₂, count_ones}
use Rattle.std.specs.Int.Bits.{bit_or}
use Rattle.std.proofs.lemmas.List.{reverse-append}
use Rattle.jesd_base.specs.Bits.{bit}
use Rattle.lane_b.specs.Loss.{has_four_faults, has_four_misplaced, with_option}
use Rattle.lane_b.specs.kept.Counts.{Counter, HasCounted, number, misplaced_after}
use Rattle.lane_b.proofs.Histories.{number-next, count_ones-number, four_faults-next, late}
use Rattle.lane_b.proofs.Misplaced.{misplaced-append, four_misplaced-more, up_to_four, four-of_min}

pairs : (a b c d : Bool) → ((a || b) || (c || d)) ≡ ((a || c) || (b || d))
pairs true b c d = refl
pairs false true true d = refl
pairs false true false d = refl
pairs false false c d = refl

pub counted-next : (now later : Counter) (faults alignments : List Bool) (fault : Bool) (a : Option Bool) → HasCounted now faults alignments
    → later.faults ≡ bit_or (now.faults * 2 % 65536) (bit fault)
    → later.misplaced ≡ min 4 (misplaced_after now.misplaced (with_option a []))
    → later.lost ≡ (now.lost || (nat_le 4 (count_ones later.faults) || nat_le 4 later.misplaced))
    → HasCounted later (faults ++ fault ∷ []) (alignments ++ with_option a [])
counted-next now later faults alignments fault a h last misplaced lost =
    let rs : List Bool = reverse faults in
    let back : reverse (faults ++ fault ∷ []) ≡ fault ∷ rs = reverse-append faults (fault ∷ []) in
    let history : later.faults ≡ number (take 16 (fault ∷ rs)) = last ∙ ap (λ n. bit_or (n * 2 % 65536) (bit fault)) h.last ∙ number-next fault rs in
    let n : ℕ = misplaced_after 0 (alignments ++ with_option a []) in
    let row : later.misplaced ≡ min 4 n =
    misplaced ∙ ap (λ m. min 4 (misplaced_after m (with_option a []))) h.misplaced ∙ up_to_four (misplaced_after 0 alignments) a
    ∙ ap (min 4) (sym (misplaced-append 0 alignments (with_option a []))) in
    let faulty : nat_le 4 (count_ones later.faults) ≡ late fault rs = ap (λ m. nat_le 4 (count_ones m)) history ∙ ap (nat_le 4) (count_ones-number (take 16 (fault ∷ rs))) in
    let astray : nat_le 4 later.misplaced ≡ nat_le 4 n = ap (nat_le 4) row ∙ four-of_min n in
    record {
      last = history ∙ ap (λ bs. number (take 16 bs)) (sym back);
      misplaced = row;
      lost = lost ∙ ap₂ (λ u v. u || v) h.lost (ap₂ (λ u v. u || v) faulty astray)
          ∙ pairs (has_four_faults faults) (has_four_misplaced alignments) (late fault rs) (nat_le 4 n)
          ∙ ap₂ (λ u v. u || v) (sym (four_faults-next faults fault)) (sym (four_misplaced-more alignments a));
    }

pub lost-over : (lost over : Bool) → over ≡ true → true ≡ (lost || over)
lost-over true over e = refl
lost-over false over e = sym e

pub lost-kept : (lost over : Bool) → over ≡ false → lost ≡ (lost || over)
lost-kept true over e = refl
lost-kept false over e = sym e
