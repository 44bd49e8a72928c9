use Rattle.std.proofs.Common.{◌≡◌, ℕ, suc, ◌%◌, List, ◌∷◌, [], ◌++◌, Bool, true, false, Option, Some, if◌then◌else◌, refl, ◌∙◌, ap, subst}
use Rattle.link_params.specs.declared.fields.Params.{Params}
use Rattle.link_params.specs.Numbers.{period}
use Rattle.lane_b.specs.kept.Senders.{Sender, GoesOn, MayGoOn}
use Rattle.lane_b.specs.Sent.{data_char}
use Rattle.lane_b.proofs.NextOctet.{follows-first, goes_on-at, follows-next}
use Rattle.lane_b.proofs.sender.TxLaneB.data.Goals.{then-first, else-first}
use Rattle.lane_b.proofs.sender.TxLaneB.data.Goals as goal

-- the octets before this one, as the data goes on
before : Bool → List ℕ → List ℕ
before first octets = if first then [] else octets

joined : (first : Bool) (octets : List ℕ) (o : ℕ) → before first octets ++ o ∷ [] ≡ (if first then o ∷ [] else octets ++ o ∷ [])
unfolding before
joined true octets o = refl
joined false octets o = refl

link : (c : goal.After-go_on) → c.if-first.self.params ≡ c.args.self.now.params
link c = elim c.if-first.branch [
  | then-first w ↦ ap (λ (s : Sender). s.params) w.self-is ∙ w.begin.ensures.same.params
  | else-first w ↦ ap (λ (s : Sender). s.params) w.self-is
]

goes_on : (c : goal.After-go_on) (octets : List ℕ) → MayGoOn c.args.self.now c.args.self.now.params octets c.args.self.now.next
    → GoesOn c.if-first.self c.args.self.now.params (before c.args.first octets) c.args.place
unfolding before
goes_on c octets h = elim c.if-first.branch [
  | then-first w ↦
      let none : c.args.place ≡ 0 = follows-first c.args.self.now.next c.args.place c.args.first c.requires w.if-first.true in
      rw (w.if-first.true, w.self-is, none) w.begin.ensures.begun
  | else-first w ↦
      let at : c.args.self.now.next ≡ Some c.args.place = follows-next c.args.self.now.next c.args.place c.args.first c.requires w.if-first.false in
      let P : Option ℕ → Type 0 = λ next. MayGoOn c.args.self.now c.args.self.now.params octets next in
      rw (w.if-first.false, w.self-is) (subst P at h)
]

pub returns-clause-due : goal.returns-clause-due
returns-clause-due c = λ octets h.
    let P : Params → Type 0 = λ p. GoesOn c.if-first.self p (before c.args.first octets) c.args.place → c.go_on.result ≡ data_char p (before c.args.first octets ++ c.args.octet ∷ []) in
    subst P (link c) (c.go_on.ensures.due (before c.args.first octets)) (goes_on c octets h) ∙ ap (data_char c.args.self.now.params) (joined c.args.first octets c.args.octet)

pub returns-clause-goes_on : goal.returns-clause-goes_on
returns-clause-goes_on c = λ octets h.
    let front : List ℕ = before c.args.first octets in
    let all : List ℕ = front ++ c.args.octet ∷ [] in
    let P : Params → Type 0 = λ p. GoesOn c.if-first.self p front c.args.place → GoesOn c.go_on.new.self p all (suc c.args.place % period p) in
    let Q : List ℕ → Type 0 = λ os. MayGoOn c.go_on.new.self c.args.self.now.params os c.go_on.new.self.next in
    let next = c.go_on.ensures.next ∙ ap (λ (p : Params). Some (suc c.args.place % period p)) (link c) in
    let on = subst P (link c) (c.go_on.ensures.goes_on front) (goes_on c octets h) in
    subst Q (joined c.args.first octets c.args.octet) (goes_on-at c.go_on.new.self c.args.self.now.params all _ c.go_on.new.self.next next on)
