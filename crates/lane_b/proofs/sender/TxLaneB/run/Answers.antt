use Rattle.std.proofs.Common.{◌≡◌, ◌<◌, ◌+◌, ◌%◌, ◌++◌, ℕ, suc, false, List, Option, Some, length, refl, sym, ◌∙◌, ap, subst, arith}
use Rattle.std.proofs.lemmas.Nat.{mod_below}
use Rattle.link_params.specs.declared.fields.Mode.TheVariants.{B}
use Rattle.link_params.specs.declared.fields.Params.{Params}
use Rattle.link_params.specs.declared.orders.TxOrder.TheVariants.{Data}
use Rattle.link_params.specs.Lanes.{Handed}
use Rattle.link_params.specs.Numbers.{period}
use Rattle.link_params.specs.Runs.{data_order, data_ticks}
use Rattle.link_params.proofs.RunLemmas.{data_order-b, data_ticks-more, data_ticks-none, each-more, round-start, round-more, sends-more, sends-none}
use Rattle.lane_b.specs.Sent.{sent_words}
use Rattle.lane_b.specs.kept.Senders.{HasSent, Sender}
use Rattle.lane_b.proofs.SentPlaces.{place-below}
use Rattle.lane_b.proofs.sender.TxLaneB.run.Goals as goal

pub loop-i-init : goal.loop-i-init
loop-i-init c =
    let is : c.replace-own.result ≡ c.args.self.now = c.replace-own.ensures.value in
    let same : c.period-period.result ≡ period c.self.inside.link.params =
    c.period-period.ensures.value ∙ ap period c.shape.ensures.same in
    let next = ap (λ (s : Sender). s.next) c.self.view_is ∙ c.requires.place in
    let low = place-below c.self.inside.link.params c.self.inside.replace c.self.inside.next
    c.args.place c.period-period.result c.self.invariant.2 next same
    c.period-period.ensures.low in (
      ap (λ (s : Sender). s.next) is ∙ c.requires.place,
      ap (λ (s : Sender). s.params) is,
      round-start c.args.place c.period-period.result low,
      low,
      (λ k none. omega arith),
      λ p lane handed h.
          let P : List Handed → Type 0 = λ hs. HasSent c.replace-own.result p lane hs in
          let Q : Sender → Type 0 = λ s. HasSent s p lane handed in (
            subst P (data_ticks-none handed p c.args.place c.args.octets.now) (subst Q (sym is) h),
            sends-none (sent_words p lane) (λ ws. ws) handed p c.args.place c.args.octets.now
                c.args.words.now refl,
          ),
    )

pub loop-i-preserved : goal.loop-i-preserved
loop-i-preserved c =
    let n : ℕ = c.period-period.result in
    let i : ℕ = c.loop-i.i in
    let now = c.loop-i.invariant in
    let same : n ≡ period c.args.self.now.params = c.period-period.ensures.value
    ∙ ap period (c.shape.ensures.same ∙ ap (λ (s : Sender). s.params) c.self.view_is) in
    let low = now.3 in
    let below = mod_below (suc c.loop-i.at) n (omega arith) in
    let next = c.place_after-at.ensures.next now.3 in
    let within = c.loop-i-test.true in
    let long = c.loop-i.auto.words in
    let both = c.requires.length in
    let inside : i < length c.loop-i.words = omega arith in (
      c.tick.ensures.next ∙ ap (λ (k : ℕ). Some (suc c.loop-i.at % k)) (ap period now.1 ∙ sym same)
          ∙ ap {B = Option ℕ} Some (sym next),
      c.tick.ensures.same ∙ now.1,
      next ∙ round-more c.args.place i c.loop-i.at n now.2,
      omega arith,
      each-more (λ k w. w < 1024) c.loop-i.words i c.tick.result now.4 inside
          c.tick.ensures.below,
      λ p lane handed h.
          let so_far = now.5 p lane handed h in
          let at : c.loop-i.at ≡ (c.args.place + i) % period p =
          now.2 ∙ ap (λ (k : ℕ). (c.args.place + i) % k) (same ∙ ap period h.params) in
          let is_b : p.mode ≡ B = subst (λ (q : Params). q.mode ≡ B)
          (ap (λ (s : Sender). s.params) c.self.view_is ∙ h.params) c.self.invariant.0 in
          let order : Data c.loop-i.at false ≡ data_order p ((c.args.place + i) % period p) =
          ap (λ (k : ℕ). Data k false) at
          ∙ data_order-b p ((c.args.place + i) % period p) is_b in
          let P : List Handed → Type 0 = λ hs. HasSent c.tick.new.self p lane hs in
          let sent : List Handed = handed ++ data_ticks p c.args.place c.args.octets.now i in (
            subst P (data_ticks-more handed p c.args.place c.args.octets.now i
                (Data c.loop-i.at false) order) (c.tick.ensures.sent p lane sent so_far.0),
            sends-more (sent_words p lane) (λ ws. ws) handed p c.args.place c.args.octets.now
                c.loop-i.words i c.tick.result c.tick.result (Data c.loop-i.at false) order inside
                so_far.1 refl (c.tick.ensures.word p lane sent so_far.0),
          ),
    )

all : (c : goal.After-self-3) → c.loop-i.i ≡ length c.args.octets.now
all c =
    let least = c.loop-i-test.false in
    let most = c.loop-i.auto.i-end in
    omega arith

pub returns-clause-words : goal.returns-clause-words
returns-clause-words c = λ p lane handed h n within.
    let done = all c in
    (c.loop-i.invariant.5 p lane handed h).1 n (omega arith)

pub returns-clause-sent : goal.returns-clause-sent
returns-clause-sent c = λ p lane handed h.
    let sent : ℕ → List Handed = λ k. handed ++ data_ticks p c.args.place c.args.octets.now k in
    let P : ℕ → Type 0 = λ k. HasSent c.loop-i.own p lane (sent k) in
    let Q : Sender → Type 0 = λ s. HasSent s p lane (sent (length c.args.octets.now)) in
    subst Q (sym c.self-3.view_is) (subst P (all c) (c.loop-i.invariant.5 p lane handed h).0)

pub returns-clause-next : goal.returns-clause-next
returns-clause-next c =
    let same : c.period-period.result ≡ period c.args.self.now.params =
    c.period-period.ensures.value
    ∙ ap period (c.shape.ensures.same ∙ ap (λ (s : Sender). s.params) c.self.view_is) in
    ap (λ (s : Sender). s.next) c.self-3.view_is ∙ c.loop-i.invariant.0
    ∙ ap {B = Option ℕ} Some (c.loop-i.invariant.2
    ∙ ap (λ (k : ℕ). (c.args.place + k) % c.period-period.result) (all c)
    ∙ ap (λ (k : ℕ). (c.args.place + length c.args.octets.now) % k) same)
