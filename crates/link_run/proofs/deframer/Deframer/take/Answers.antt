use Rattle.std.proofs.Common.{◌≡◌, ◌<◌, ◌+◌, ◌*◌, ◌∙◌, ◌++◌, ◌==◌, if◌then◌else◌, ℕ, List, length, map, Some, ap, ap₂, sym, subst, refl, inl, inr, arith}
use Rattle.std.specs.Vec.{with_items}
use Rattle.std.proofs.lemmas.List.{length-map, with_items_is}
use Rattle.link_params.specs.declared.cells.LaneCell.{LaneCell}
use Rattle.link_params.specs.declared.cells.Mark.{Mark}
use Rattle.link_params.specs.declared.cells.Mark.TheVariants.{Ok as Good}
use Rattle.link_params.specs.declared.fields.Params.{Params}
use Rattle.scenario.specs.Plans.{numbers_from}
use Rattle.link_model.specs.kept.Before.{Columns, octet_columns}
use Rattle.link_run.specs.kept.FrameRows.{IsPut, frame_in, whole_in}
use Rattle.link_run.specs.kept.Gathered.{FramesAre, Gathering, HasGathered}
use Rattle.link_run.specs.kept.Waits.{next_of}
use Rattle.link_run.proofs.Gathering.{HasNext, count-frames, few-whole, frames-next, gathered-next, has-next}
use Rattle.link_run.proofs.deframer.Deframer.take.Goals as goal
use Rattle.link_run.proofs.deframer.Deframer.take.Goals.{After-self-5-1}

-- what the rows hold after the tick
held : (c : After-self-5-1)
    → (with_items c.self.inside.rows c.put-worst.new.rows).items ≡ c.put-worst.new.rows
held c = with_items_is c.self.inside.rows c.put-worst.new.rows
    (c.put-worst.auto.rows ∙ c.deref_mut.ensures.len)

-- what it shows before
abbrev shown : After-self-5-1 → Gathering
shown c = let d = c.self.inside in record {
  params = d.shape;
  at = d.at;
  mark = d.mark;
  octets = frame_in d.rows.items d.shape d.room d.whole;
  frames = map (whole_in d.rows.items d.shape d.room d.first d.others) (numbers_from 0 d.whole);
}

-- and after
abbrev next_shown : After-self-5-1 → Gathering
next_shown c =
    let d = c.self.inside in
    let rows : List ℕ = (with_items d.rows c.put-worst.new.rows).items in
    let whole = c.frames_with-whole.result.0 in
    record {
      params = d.shape;
      at = c.frames_with-whole.result.1;
      mark = c.mark_behind-self-inside.result;
      octets = frame_in rows d.shape d.room whole;
      frames = map (whole_in rows d.shape d.room c.worse-self-inside.result c.put-worst.result)
          (numbers_from 0 whole);
    }

is-shown : (c : After-self-5-1) → shown c ≡ c.rest.new.self
is-shown c = c.self.view_is

counts : (c : After-self-5-1)
    → c.frames_with-whole.result.0 * c.self.inside.shape.f + c.frames_with-whole.result.1
    ≡ c.self.inside.at + c.self.inside.per_tick
counts c =
    sym (ap (λ (f : ℕ). c.frames_with-whole.result.0 * f + c.frames_with-whole.result.1)
    c.self.invariant.size_is)
    ∙ c.frames_with-whole.ensures.count

few : (c : After-self-5-1) → c.frames_with-whole.result.1 < c.self.inside.shape.f
few c = let is = c.self.invariant.size_is in
    let within = c.frames_with-whole.ensures.within in
    omega arith

some : (c : After-self-5-1) → 0 < c.self.inside.per_tick
some c = elim c.self.invariant.one_or_eight [
  | inl one ↦ omega arith
  | inr eight ↦ omega arith
]

next : (c : After-self-5-1) (columns : Columns) (column : List LaneCell)
    → HasGathered c.args.self.now c.self.inside.shape columns
    → map next_of c.args.waiting.now ≡ map (λ x. Some x) column
    → HasNext (shown c) c.self.inside.shape columns column c.self.inside.rows.items
    c.put-worst.new.rows c.self.inside.room c.self.inside.per_tick c.put-worst.result
next c columns column had all =
    let d = c.self.inside in
    let was = is-shown c in
    let rested : HasGathered (shown c) d.shape columns =
    subst (λ (g : Gathering). HasGathered g d.shape columns) (sym was)
    (c.rest.ensures.gathered d.shape columns had) in
    let whole : d.whole ≡ 0 = sym (count-frames _ d.whole)
    ∙ ap (λ (g : Gathering). length g.frames) was ∙ ap length c.rest.ensures.nothing in
    let given = map next_of c.args.waiting.now in
    let count = length-map c.args.waiting.now next_of ∙ c.requires.lanes
    ∙ ap (λ p. p.l) (sym c.rest.ensures.same) ∙ ap (λ (g : Gathering). g.params.l) (sym was) in
    let within = c.self.invariant.within in
    let size = c.self.invariant.size_is in
    let put : IsPut d.rows.items c.put-worst.new.rows given d.room d.at d.per_tick
    c.put-worst.result = subst (λ (l : List ℕ). IsPut l c.put-worst.new.rows given d.room d.at
    d.per_tick c.put-worst.result) c.deref_mut.ensures.value c.put-worst.ensures.put in
    has-next (shown c) d.shape columns column d.rows.items c.put-worst.new.rows given d.room
    d.per_tick c.put-worst.result rested all count (omega arith) c.self.invariant.ticks
    (some c) (ap (frame_in d.rows.items d.shape d.room) whole) put

-- the parameters are those of the octets that were gathered
same-params : (c : After-self-5-1) (p : Params) (columns : Columns)
    → HasGathered c.args.self.now p columns → p ≡ c.self.inside.shape
same-params c p columns had =
    sym (ap (λ (g : Gathering). g.params) (is-shown c) ∙ c.rest.ensures.same ∙ had.same_params)

pub returns-clause-goes_on : goal.returns-clause-goes_on
returns-clause-goes_on c = λ p columns column had all.
    let d = c.self.inside in
    let whole = c.frames_with-whole.result.0 in
    let rest = c.frames_with-whole.result.1 in
    let same = same-params c p columns had in
    let own : HasGathered c.args.self.now d.shape columns =
    subst (λ (q : Params). HasGathered c.args.self.now q columns) same had in
    let mark = c.mark_behind-self-inside.ensures
    ∙ ap (λ (m : Mark). if whole == 0 then m else (if rest == 0 then Good else c.put-worst.result))
    c.worse-self-inside.ensures in
    subst (λ (q : Params). HasGathered (next_shown c) q (columns ++ octet_columns q column)) (sym same)
    (gathered-next (shown c) d.shape columns column d.rows.items c.put-worst.new.rows d.room
    d.per_tick c.put-worst.result (next c columns column own all) whole rest (counts c) (few c)
    (next_shown c) refl refl mark (ap (λ (l : List ℕ). frame_in l d.shape d.room whole) (held c)))

pub returns-clause-frames : goal.returns-clause-frames
returns-clause-frames c = λ p columns column had all.
    let d = c.self.inside in
    let whole = c.frames_with-whole.result.0 in
    let rest = c.frames_with-whole.result.1 in
    let same = same-params c p columns had in
    let own : HasGathered c.args.self.now d.shape columns =
    subst (λ (q : Params). HasGathered c.args.self.now q columns) same had in
    subst (λ (q : Params). FramesAre (next_shown c).frames q (length columns) (columns ++ octet_columns q column))
    (sym same)
    (ap₂ (λ (l : List ℕ) (m : Mark). map (whole_in l d.shape d.room m c.put-worst.result)
    (numbers_from 0 whole)) (held c) c.worse-self-inside.ensures
    ∙ frames-next (shown c) d.shape columns column d.rows.items c.put-worst.new.rows d.room
    d.per_tick c.put-worst.result (next c columns column own all) whole rest (counts c) (few c))

pub invariant_of-self : goal.invariant_of-self
invariant_of-self c =
    let i = c.self.invariant in
    let size = i.size_is in
    let within = i.within in
    let count = c.frames_with-whole.ensures.count in
    let room = i.room_is in
    rw (held c) (record {
      lanes = i.lanes;
      size_is = i.size_is;
      most = i.most;
      ticks = i.ticks;
      one_or_eight = i.one_or_eight;
      whole_frames = i.whole_frames;
      no_rest = c.frames_with-whole.ensures.whole;
      room_is = i.room_is;
      count = c.put-worst.ensures.put.size ∙ ap length c.deref_mut.ensures.value ∙ i.count;
      within = c.frames_with-whole.ensures.within;
      fits = omega arith;
      few = few-whole _ _ _ _ _ count within (some c);
    })
