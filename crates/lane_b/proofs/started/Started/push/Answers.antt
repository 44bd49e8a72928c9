use Rattle.std.proofs.Common.{◌≡◌, ℕ, ◌+◌, ◌%◌, ◌≤◌, [], ◌∷◌, ◌++◌, length, drop, refl, sym, ◌∙◌, ap, arith, length-append}
use Rattle.link_params.specs.declared.fields.Params.{Params}
use Rattle.link_params.specs.Lanes.{Placed, Held}
use Rattle.link_params.specs.Numbers.{period}
use Rattle.char_replace.specs.kept.Ends.{IsSerial}
use Rattle.lane_b.specs.Loss.{alignment_at, alignments_from, faults_from, ilas_length, is_wrong_in_ilas}
use Rattle.lane_b.specs.kept.Starts.{next_kept_place}
use Rattle.lane_b.proofs.KeptPlaces.{kept-in_ilas, kept-low, kept-past}
use Rattle.lane_b.proofs.Starting.{data-more, data-none, data-place, entries-held, entries-placed, fault-in_data, fault-in_ilas, has_read-next, state-not_done, state-stays}
use Rattle.lane_b.proofs.started.Started.push.Goals as goal

pub returns-then-place-period-clause-entry : goal.returns-then-place-period-clause-entry
returns-then-place-period-clause-entry c = λ p lane since h.
    let was = rw (← c.self.view_is) at h in
    let size : c.period-period.result ≡ period p = c.period-period.ensures.value ∙ ap period (c.shape-shape.ensures.same ∙ was.params) in
    let short = kept-in_ilas (period p) (length since) (rw (size, was.place) at c.if-place-period.true) in
    record { entry = Placed; added = entries-placed p since c.args.reading short; gives = refl }

pub returns-then-place-period-clause-goes_on : goal.returns-then-place-period-clause-goes_on
returns-then-place-period-clause-goes_on c = λ p lane since h.
    let was = rw (← c.self.view_is) at h in
    let same : c.self.inside.link.params ≡ p = was.params in
    let serial : IsSerial c.self.inside.link.params = record { legal = c.shape-shape.ensures.legal; mode = c.self.invariant.0 } in
    let size : c.period-period.result ≡ period p = c.period-period.ensures.value ∙ ap period (c.shape-shape.ensures.same ∙ same) in
    let short = kept-in_ilas (period p) (length since) (rw (size, was.place) at c.if-place-period.true) in
    let n : ℕ = length since in
    let place : c.self.inside.place ≡ n = was.place ∙ kept-low (period p) n (omega arith) in
    let fault = c.is_wrong_in_ilas-fault.ensures ∙ ap (λ (q : Params). is_wrong_in_ilas q c.self.inside.place c.args.reading) same
    ∙ ap (λ (x : ℕ). is_wrong_in_ilas p x c.args.reading) place ∙ sym (fault-in_ilas p n c.args.reading short) in
    let alignment = c.alignment_at-alignment.ensures
    ∙ ap (λ (q : Params). alignment_at q c.self.inside.place c.args.reading) (c.shape-shape.ensures.same ∙ same) in
    let next = c.next_place-self-inside.ensures.value ∙ ap (λ (x : ℕ). next_kept_place x c.self.inside.place) size in
    let some : 1 ≤ period p = omega (arith, size, c.period-period.ensures.low) in
    let state = c.push-self-inside.ensures.answer p lane since (was.check short) in
    has_read-next _ _ p lane since c.args.reading _ _ (rw same at serial) some was same next fault alignment
    (c.push.ensures (faults_from p 0 since) (alignments_from p 0 since) was.loss)
    (λ fits. c.push-self-inside.ensures.goes_on p lane since (was.check short) (λ done. state-not_done (since ++ c.args.reading ∷ []) p lane fits (sym state ∙ done)))
    state
    (rw (data-none p since c.args.reading short) was.octets)

pub returns-clause-entry : goal.returns-clause-entry
returns-clause-entry c = λ p lane since h.
    let was = rw (← c.self.view_is) at h in
    let size : c.period-period.result ≡ period p = c.period-period.ensures.value ∙ ap period (c.shape-shape.ensures.same ∙ was.params) in
    let past = kept-past (period p) (length since) (rw (size, was.place) at c.if-place-period.false) in
    let at = c.place_of_data.ensures ∙ ap (λ (x : ℕ). c.self.inside.place % x) size ∙ data-place p since c.self.inside.place was.place past in
    let gives = c.push-given.ensures.cell p (drop (ilas_length p) since) was.octets at in
    record { entry = Held c.push-given.result.cell; added = entries-held p since c.args.reading c.push-given.result.cell past gives; gives = refl }

pub returns-clause-goes_on : goal.returns-clause-goes_on
returns-clause-goes_on c = λ p lane since h.
    let was = rw (← c.self.view_is) at h in
    let same : c.self.inside.link.params ≡ p = was.params in
    let serial : IsSerial c.self.inside.link.params = record { legal = c.shape-shape.ensures.legal; mode = c.self.invariant.0 } in
    let size : c.period-period.result ≡ period p = c.period-period.ensures.value ∙ ap period (c.shape-shape.ensures.same ∙ same) in
    let past = kept-past (period p) (length since) (rw (size, was.place) at c.if-place-period.false) in
    let at = c.place_of_data.ensures ∙ ap (λ (x : ℕ). c.self.inside.place % x) size ∙ data-place p since c.self.inside.place was.place past in
    let fault = c.push-given.ensures.fault p (drop (ilas_length p) since) was.octets at ∙ sym (fault-in_data p since c.args.reading past) in
    let alignment = c.alignment_at-alignment.ensures
    ∙ ap (λ (q : Params). alignment_at q c.self.inside.place c.args.reading) (c.shape-shape.ensures.same ∙ same) in
    let next = c.next_place-self-inside.ensures.value ∙ ap (λ (x : ℕ). next_kept_place x c.self.inside.place) size in
    let some : 1 ≤ period p = omega (arith, size, c.period-period.ensures.low) in
    let long : length (since ++ c.args.reading ∷ []) ≡ length since + 1 = length-append since (c.args.reading ∷ []) in
    has_read-next _ _ p lane since c.args.reading _ _ (rw same at serial) some was same next fault alignment
    (c.push-2.ensures (faults_from p 0 since) (alignments_from p 0 since) was.loss)
    (λ fits. absurd (omega arith))
    (was.ilas ∙ sym (state-stays since p lane c.args.reading (omega arith) past))
    (rw (data-more p since c.args.reading past) (c.push-given.ensures.goes_on p (drop (ilas_length p) since) was.octets at))
