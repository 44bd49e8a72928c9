use Rattle.std.proofs.Common.{◌≡◌, ℕ, suc, ◌%◌, ◌≤◌, ◌<◌, List, ◌∷◌, [], ◌++◌, length, Bool, Some, None, sym, ◌∙◌, ap, subst, arith}
use Rattle.std.specs.List.{flat_map}
use Rattle.jesd_base.specs.Bits.{bits}
use Rattle.link_params.specs.declared.fields.Params.{Params}
use Rattle.link_params.specs.Laws.{broken_law}
use Rattle.link_params.specs.Numbers.{period}
use Rattle.link_params.proofs.LawFacts.{legal_sizes}
use Rattle.lane_scramble.specs.kept.Scramblers.{HasScrambled15}
use Rattle.char_replace.specs.kept.Ends.{HasReplaced, Sender as Replacer}
use Rattle.lane_b.specs.kept.Senders.{Sender, GoesOn, Carries}
use Rattle.lane_b.specs.Sent.{coded_octets, replaced}
use Rattle.lane_b.proofs.CodedOctets.{length-coded, data_char-more, carries-more, place-more}
use Rattle.lane_b.proofs.NextOctet.{is_placed-more, place-low, taken-spelled}
use Rattle.lane_b.proofs.sender.TxLaneB.go_on.Goals as goal

link : (c : goal.After-push) → c.self-2.inside.link.params ≡ c.args.self.now.params
link c = ap (λ (s : Sender). s.params) (c.self-2.view_is ∙ c.coded-coded.ensures.same)

next_is : (c : goal.After-push) → c.self-2.inside.next ≡ Some c.args.place
next_is c = ap (λ (s : Sender). s.next) (c.self-2.view_is ∙ c.coded-coded.ensures.same) ∙ c.requires

place_is : (c : goal.After-push) → c.place_after-next.result ≡ suc c.args.place % period c.args.self.now.params
place_is c =
    let same : c.shape.result ≡ c.args.self.now.params = c.shape.ensures.same ∙ ap (λ (s : Sender). s.params) c.self.view_is in
    let next : c.self.inside.next ≡ Some c.args.place =
    ap (λ (s : Sender). s.next) c.self.view_is ∙ c.requires in
    let size : c.period.result ≡ period c.self.inside.link.params =
    c.period.ensures.value ∙ ap period c.shape.ensures.same in
    let low : c.args.place < c.period.result = place-low _ _ _ _ _ c.self.invariant.2 next
    (omega (arith, c.period.ensures.low)) size in
    c.place_after-next.ensures.next low ∙ ap (λ (n : ℕ). suc c.args.place % n) (c.period.ensures.value ∙ ap period same)

some_octets : (c : goal.After-push) → 1 ≤ c.args.self.now.params.f
some_octets c =
    let Legal : Params → Type 0 = λ p. broken_law p ≡ None in
    (legal_sizes c.args.self.now.params (subst Legal (ap (λ (s : Sender). s.params) c.self.view_is) c.shape.ensures.legal)).f_low

pushed : (c : goal.After-push) (octets : List ℕ) → GoesOn c.args.self.now c.args.self.now.params octets c.args.place
    → HasReplaced c.push.new.self c.args.self.now.params (coded_octets c.args.self.now.params octets ++ c.coded-coded.result ∷ [])
    (replaced c.args.self.now.params (coded_octets c.args.self.now.params octets) (length (coded_octets c.args.self.now.params octets)) ++ c.push.result ∷ [])
pushed c octets h =
    let p : Params = c.args.self.now.params in
    let coded : List ℕ = coded_octets p octets in
    let P : Replacer → Type 0 = λ r. Carries r p coded in
    let same = ap (λ (s : Sender). s.replace) (c.self-2.view_is ∙ c.coded-coded.ensures.same) in
    c.push.ensures p coded (replaced p coded (length coded)) (subst P (sym same) h.replaced_so)
    (h.place ∙ ap (λ (k : ℕ). k % period p) (sym (length-coded p octets)))

pub invariant_of-self : goal.invariant_of-self
invariant_of-self c =
    let place : c.place_after-next.result ≡ suc c.args.place % period c.self-2.inside.link.params = place_is c ∙ ap (λ (p : Params). suc c.args.place % period p) (sym (link c)) in (
      c.self-2.invariant.0,
      c.self-2.invariant.1,
      rw place (is_placed-more c.self-2.inside.replace c.push.new.self c.self-2.inside.link.params c.self-2.inside.next c.args.place c.coded-coded.result c.push.result c.self-2.invariant.2 (next_is c) c.push.ensures),
    )

pub returns-clause-due : goal.returns-clause-due
returns-clause-due c = λ octets h.
    data_char-more c.push.new.self c.args.self.now.params octets c.args.octet c.coded-coded.result c.push.result (some_octets c)
    (c.coded-coded.ensures.coded octets h.scrambled_so) (pushed c octets h)

pub returns-clause-goes_on : goal.returns-clause-goes_on
returns-clause-goes_on c = λ octets h.
    let p : Params = c.args.self.now.params in
    let more = c.coded-coded.ensures.coded octets h.scrambled_so in
    let P : List ℕ → Type 0 = λ coded. Carries c.push.new.self p coded in
    let Q : List Bool → Type 0 = λ kept. HasScrambled15 kept (flat_map (bits 8) (octets ++ c.args.octet ∷ [])) in
    record {
      place = place-more p octets c.args.octet c.args.place h.place;
      replaced_so = subst P (sym more) (carries-more c.push.new.self p (coded_octets p octets) c.coded-coded.result c.push.result (some_octets c) (pushed c octets h));
      scrambled_so = λ scr. subst Q (sym (ap (λ (s : Sender). s.scrambler) c.self-2.view_is)) (c.coded-coded.ensures.stands octets h.scrambled_so scr);
    }

pub returns-clause-spelled : goal.returns-clause-spelled
returns-clause-spelled c =
    taken-spelled c.self-2.inside.replace c.push.new.self c.self-2.inside.link.params c.self-2.inside.next c.args.place c.coded-coded.result c.push.result c.self-2.invariant.2
    (next_is c) c.push.ensures c.coded-coded.type_inv
