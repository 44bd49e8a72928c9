-- What a tick does to a lane that hunts and to one that is locked.
use Rattle.std.proofs.Common.{◌≡◌, ℕ, ◌+◌, ◌-◌, ◌*◌, ◌/◌, ◌%◌, ◌≤◌, ◌<◌, Bool, true, false, not, ◌&&◌, if◌then◌else◌, List, [], ◌∷◌, ◌++◌, length, take, drop, Option, Some, None, option_map, refl, sym, ◌∙◌, ap, arith, length-append, length-drop}
use Rattle.std.proofs.Math.Seq.{drop-append-le, drop-append_seam, drop-append-add, drop-drop, get_or-append_seam}
use Rattle.std.proofs.lemmas.List.{append-nil}
use Rattle.jesd_base.specs.Bits.{bits, value}
use Rattle.link_params.specs.declared.fields.Params.{Params}
use Rattle.link_params.specs.declared.fields.Timing.{Timing}
use Rattle.link_params.specs.declared.orders.RxOrder.{RxOrder}
use Rattle.link_params.specs.declared.ilas_state.IlasState.{IlasState}
use Rattle.link_params.specs.declared.ilas_state.IlasState.TheVariants.{Idle}
use Rattle.link_params.specs.declared.lane_report.LaneReport.{LaneReport}
use Rattle.link_params.specs.Lanes.{Entry, Taken, is_inside}
use Rattle.code_8b10b.specs.declared.character.Rd.TheVariants.{Minus}
use Rattle.code_8b10b.specs.declared.character.Reading.{Reading}
use Rattle.code_8b10b.specs.declared.hunt.Lock.{Lock as HuntLock}
use Rattle.code_8b10b.specs.Code.{after}
use Rattle.code_8b10b.specs.Reads.{reading, readings}
use Rattle.code_8b10b.specs.Commas.{least_place, found, HasHunted}
use Rattle.code_8b10b.proofs.Windows.{length-bits}
use Rattle.ilas.specs.Checked.{ilas_state}
use Rattle.lane_b.specs.declared.chars.Chars.{Chars}
use Rattle.lane_b.specs.declared.receiver.Chain.{Chain}
use Rattle.lane_b.specs.declared.receiver.Start.{Start}
use Rattle.lane_b.specs.declared.receiver.Step.{Step}
use Rattle.lane_b.specs.declared.receiver.Step.TheVariants.{Stay, Keep, Drop}
use Rattle.lane_b.specs.kept.Across.{ten_across}
use Rattle.lane_b.specs.Locking.{Lock, bits_taken, words_in, is_comma, from_other, is_empty, lock_at, since_start, bits_to_start, tick_of_start, order_at, no_order, is_dropped, lock, tens, start_of}
use Rattle.lane_b.specs.Loss.{is_lost, faults_from, alignments_from, some_rest}
use Rattle.lane_b.specs.Received.{report_b, report_of, entries_b, entries_of, entries_since, is_started_inside}
use Rattle.lane_b.specs.kept.Senders.{rd_after}
use Rattle.lane_b.specs.kept.Starts.{HasRead}
use Rattle.lane_b.specs.kept.Receivers.{AreTens, HuntsOn, ReadsOn, IsStarted, MayBeStarted, IsLocked}
use Rattle.lane_b.specs.kept.Ticks.{StepOf, Reads, Does}
use Rattle.lane_b.proofs.ChainLemmas.{later_tens, later_tens-ten, words_in-append, rd_after-append, from_other-append_none, from_other-append_some, is_empty-append}
use Rattle.lane_b.proofs.PlaceLemmas.{no_place, found_now, least_place-from}
use Rattle.lane_b.proofs.SearchLemmas.{bits_taken-append, length-bits_taken, are_tens-more, later_readings, read-append, length-read, place-lock_at, order_of_start-more, searches-more, least-more, searches-drop, lock-none, lock-some}
use Rattle.lane_b.proofs.EntryLemmas.{in_order, entries_since-nothing}

-- ---- bits of one tick more

pub bits_taken-one : (taken : List Taken) (x : Taken) → bits_taken (taken ++ x ∷ []) ≡ bits_taken taken ++ x.word
bits_taken-one taken x = bits_taken-append taken (x ∷ []) ∙ ap (λ bs. bits_taken taken ++ bs) (append-nil x.word)

length-one : (taken : List Taken) (x : Taken) → length x.word ≡ 10 → length (bits_taken (taken ++ x ∷ [])) ≡ length (bits_taken taken) + 10
length-one taken x ten = ap length (bits_taken-one taken x) ∙ length-append (bits_taken taken) x.word ∙ ap (λ n. length (bits_taken taken) + n) ten

last-one : (taken : List Taken) (x : Taken) → length x.word ≡ 10 → x.word ≡ drop (length (bits_taken (taken ++ x ∷ [])) - 10) (bits_taken (taken ++ x ∷ []))
last-one taken x ten =
    let l = length-one taken x ten in
    let e : length (bits_taken (taken ++ x ∷ [])) - 10 ≡ length (bits_taken taken) = omega arith in
    rw (e, bits_taken-one taken x) (sym (drop-append_seam (bits_taken taken) x.word))

drop-one : (taken : List Taken) (x : Taken) (n : ℕ) → n ≤ length (bits_taken taken) → drop n (bits_taken (taken ++ x ∷ [])) ≡ drop n (bits_taken taken) ++ x.word
drop-one taken x n le = ap (drop n) (bits_taken-one taken x) ∙ drop-append-le n (bits_taken taken) x.word le

-- ---- a lane that hunts

pub lock-hunts : (h : List Bool) (taken : List Taken) → AreTens taken → HuntsOn h taken → lock taken ≡ None
lock-hunts h taken tens o = lock-none taken o.from tens o.searches (no_place o.from (drop o.from (bits_taken taken)) o.hunted.nothing)

pub entries-hunts : (p : Params) (t : Timing) (lane : ℕ) (h : List Bool) (taken : List Taken) → AreTens taken → HuntsOn h taken → entries_b p t lane taken ≡ []
unfolding entries_b
entries-hunts p t lane h taken tens o = ap (entries_of p t taken) (lock-hunts h taken tens o)

pub report-hunts : (p : Params) (t : Timing) (lane : ℕ) (h : List Bool) (taken : List Taken) → AreTens taken → HuntsOn h taken
    → ◌≡◌ {A = LaneReport} (record { locked = false; started = None; lost = false; ilas = Idle }) (report_b p t lane taken)
unfolding report_b
report-hunts p t lane h taken tens o = sym (ap (report_of p lane taken) (lock-hunts h taken tens o))

pub hunts-more : (h new : List Bool) (taken : List Taken) (x : Taken) (o : HuntsOn h taken) → HasHunted new (drop o.from (bits_taken taken) ++ x.word)
    → HuntsOn new (taken ++ x ∷ [])
hunts-more h new taken x o hunted = record {
  from = o.from;
  searches = searches-more taken o.from (x ∷ []) o.searches;
  hunted = rw (drop-one taken x o.from o.searches.inside) hunted;
}

no_length : {A : Type 0} (xs : List A) → length xs ≡ 0 → xs ≡ []
no_length [] e = refl
no_length (x ∷ xs) e = absurd (omega arith)

one_ten : (bs : List Bool) → 10 ≤ length bs → length bs < 20 → words_in bs ≡ value (take 10 bs) ∷ []
unfolding tens
one_ten bs low high = let e : length bs / 10 ≡ 1 = omega arith in rw e refl

-- the hunt ends
pub locks-now : (h : List Bool) (taken : List Taken) (x : Taken) (l : HuntLock) (new : Chars) (p : Params) (t : Timing) (lane : ℕ) (o : HuntsOn h taken) → length x.word ≡ 10
    → found (drop o.from (bits_taken taken) ++ x.word) ≡ Some l → new.rest ≡ l.rest → bits 10 new.last ≡ x.word → new.rd ≡ l.rd
    → IsLocked (record { chars = new; start = None }) p t lane (taken ++ x ∷ [])
unfolding rd_after from_other
locks-now h taken x l new p t lane o ten answer rest last rd =
    let all : List Bool = bits_taken (taken ++ x ∷ []) in
    let cs : List Bool = drop o.from (bits_taken taken) ++ x.word in
    let f = found_now (drop o.from (bits_taken taken)) x.word l o.hunted.nothing answer in
    let z : ℕ = f.place in
    let within = o.searches.inside in
    let is : drop o.from all ≡ cs = drop-one taken x o.from within in
    let long = length-one taken x ten in
    let d = length-drop o.from (bits_taken taken) in
    let n : length cs ≡ length (drop o.from (bits_taken taken)) + 10 = length-append (drop o.from (bits_taken taken)) x.word ∙ ap (λ k. length (drop o.from (bits_taken taken)) + k) ten in
    let inside = f.inside in
    let late = f.late in
    let y : ℕ = o.from + z in
    let fits : y + 40 ≤ length all = omega arith in
    let r = f.rest in
    let short : (length all - (y + 40)) / 10 ≡ 0 = omega arith in
    let none : (lock_at all y).read ≡ [] = no_length (lock_at all y).read (length-read all y fits ∙ short) in
    let place : o.from + (z + 30) ≡ y + 30 = omega arith in
    let chars : drop (z + 30) cs ≡ drop (y + 30) all = ap (drop (z + 30)) (sym is) ∙ drop-drop (z + 30) o.from all ∙ ap (λ k. drop k all) place in
    let m = length-drop (y + 30) all in
    let one = one_ten (drop (y + 30) all) (omega arith) (omega arith) in
    record {
      place = y;
      reads = record {
        from = o.from;
        searches = searches-more taken o.from (x ∷ []) o.searches;
        least = ap (least_place o.from) is ∙ least_place-from o.from cs ∙ ap (option_map (λ k. o.from + k)) f.least;
        inside = fits;
        rest = rest ∙ omega arith;
        last = last ∙ last-one taken x ten;
        rd = rd ∙ f.rd ∙ ap (λ bs. after Minus (value (take 10 bs))) chars ∙ sym (ap (rd_after Minus) one);
      };
      started = ap from_other none;
    }

-- ---- the characters of a lock

next_ten : (bs w : List Bool) (y rest : ℕ) → y + 40 ≤ length bs → length w ≡ 10 → rest ≡ (length bs - (y + 40)) % 10
    → later_tens (drop (y + 30) bs) w ≡ value (ten_across rest (drop (length bs - 10) bs) w) ∷ []
next_ten bs w y rest inside ten e =
    let d = length-drop (y + 30) bs in
    let m : ℕ = length (drop (y + 30) bs) / 10 in
    let near : y + 30 ≤ length bs = omega arith in
    let end : length bs - 10 ≤ length bs = omega arith in
    let same : y + 30 + 10 * m ≡ length bs - 10 + (10 - rest) = omega arith in
    let here : drop (10 * m) (drop (y + 30) bs ++ w) ≡ drop (10 - rest) (drop (length bs - 10) bs ++ w) =
    ap (drop (10 * m)) (sym (drop-append-le (y + 30) bs w near)) ∙ drop-drop (10 * m) (y + 30) (bs ++ w) ∙ ap (λ k. drop k (bs ++ w)) same
    ∙ sym (drop-drop (10 - rest) (length bs - 10) (bs ++ w)) ∙ ap (drop (10 - rest)) (drop-append-le (length bs - 10) bs w end) in
    later_tens-ten (drop (y + 30) bs) w ten ∙ ap (λ xs. value (take 10 xs) ∷ []) here

-- the number of the character that ends in this tick
pub number_now : Chars → Taken → ℕ
number_now old x = value (ten_across old.rest (bits 10 old.last) x.word)

number-now : (old : Chars) (taken : List Taken) (x : Taken) (place : ℕ) (r : ReadsOn old taken place) → length x.word ≡ 10
    → later_tens (drop (place + 30) (bits_taken taken)) x.word ≡ number_now old x ∷ []
unfolding number_now
number-now old taken x place r ten =
    next_ten (bits_taken taken) x.word place old.rest r.inside ten r.rest ∙ ap (λ bs. value (ten_across old.rest bs x.word) ∷ []) (sym r.last)

pub reads-on : (old new : Chars) (taken : List Taken) (x : Taken) (place : ℕ) → ReadsOn old taken place → length x.word ≡ 10
    → new.rest ≡ old.rest → bits 10 new.last ≡ x.word → new.rd ≡ after old.rd (number_now old x) → ReadsOn new (taken ++ x ∷ []) place
unfolding rd_after
reads-on old new taken x place r ten rest last rd =
    let bs : List Bool = bits_taken taken in
    let inside = r.inside in
    let long = length-one taken x ten in
    let near : place + 30 ≤ length bs = omega arith in
    let old_rest = r.rest in
    record {
      from = r.from;
      searches = searches-more taken r.from (x ∷ []) r.searches;
      least = least-more taken r.from place (x ∷ []) r.searches.inside r.least;
      inside = omega arith;
      rest = rest ∙ omega arith;
      last = last ∙ last-one taken x ten;
      rd = rd ∙ ap (λ d. after d (number_now old x)) r.rd
          ∙ sym (ap (rd_after (rd_after Minus (words_in (drop (place + 30) bs)))) (number-now old taken x place r ten))
          ∙ sym (rd_after-append (words_in (drop (place + 30) bs)) Minus (later_tens (drop (place + 30) bs) x.word))
          ∙ sym (ap (rd_after Minus) (words_in-append (drop (place + 30) bs) x.word))
          ∙ sym (ap (λ cs. rd_after Minus (words_in cs)) (drop-one taken x (place + 30) near));
    }

-- the reading of this tick comes behind those before
pub read-on : (old : Chars) (taken : List Taken) (x : Taken) (place : ℕ) → ReadsOn old taken place → length x.word ≡ 10
    → (lock_at (bits_taken (taken ++ x ∷ [])) place).read ≡ (lock_at (bits_taken taken) place).read ++ reading old.rd (number_now old x) ∷ []
unfolding later_readings readings
read-on old taken x place r ten =
    let bs : List Bool = bits_taken taken in
    ap (λ cs. (lock_at cs place).read) (bits_taken-one taken x) ∙ read-append bs place x.word r.inside
    ∙ ap (λ ws. (lock_at bs place).read ++ readings (rd_after Minus (words_in (drop (place + 30) bs))) ws) (number-now old taken x place r ten)
    ∙ ap (λ d. (lock_at bs place).read ++ reading d (number_now old x) ∷ []) (sym r.rd)

-- ---- a lane that is locked

and_false : (a : Bool) → a && false ≡ false
and_false true = refl
and_false false = refl

not_dropped : (s : Option Start) (p : Params) (t : Timing) (lane : ℕ) (taken : List Taken) (l : Lock) → MayBeStarted s p t lane taken l → is_dropped taken l ≡ false
not_dropped None p t lane taken l none = ap (λ rs. not (is_empty rs) && not (order_at taken (tick_of_start l)).armed) none
not_dropped (Some s) p t lane taken l st = ap (λ a. not (is_empty (since_start l)) && not a) st.armed ∙ and_false (not (is_empty (since_start l)))

pub lock-locked : (k : Chain) (p : Params) (t : Timing) (lane : ℕ) (taken : List Taken) → AreTens taken → (o : IsLocked k p t lane taken)
    → lock taken ≡ Some (lock_at (bits_taken taken) o.place)
lock-locked k p t lane taken tens o =
    lock-some taken o.reads.from o.place tens o.reads.searches o.reads.least o.reads.inside
    (not_dropped k.start p t lane taken (lock_at (bits_taken taken) o.place) o.started)

entries-unstarted : (p : Params) (t : Timing) (lane : ℕ) (taken : List Taken) (l : Lock) → lock taken ≡ Some l → since_start l ≡ [] → entries_b p t lane taken ≡ []
unfolding entries_b
entries-unstarted p t lane taken l locked none = ap (entries_of p t taken) locked ∙ (rw none refl)

pub entries-not_started : (k : Chain) (p : Params) (t : Timing) (lane : ℕ) (taken : List Taken) → AreTens taken → (o : IsLocked k p t lane taken) → k.start ≡ None
    → entries_b p t lane taken ≡ []
entries-not_started k p t lane taken tens o unstarted =
    entries-unstarted p t lane taken (lock_at (bits_taken taken) o.place) (lock-locked k p t lane taken tens o) (rw unstarted at o.started)

if_inside : Bool → Params → List Reading → List Entry
if_inside inside p since = if inside then entries_since p since else []

entries-started : (p : Params) (t : Timing) (lane : ℕ) (taken : List Taken) (l : Lock) (inside : Bool) → lock taken ≡ Some l → is_empty (since_start l) ≡ false
    → is_inside t (order_at taken (tick_of_start l)).offset ≡ inside → entries_b p t lane taken ≡ if_inside inside p (since_start l)
unfolding entries_b if_inside
entries-started p t lane taken l inside locked begun is =
    ap (entries_of p t taken) locked
    ∙ ap (λ b. if is_started_inside t (if b then None else Some (order_at taken (tick_of_start l)).offset) then entries_since p (since_start l) else []) begun
    ∙ ap (λ b. if b then entries_since p (since_start l) else []) is

-- the next character of a lock, and its reading
pub record NextChar (old new : Chars) (x : Taken) (r : Reading) : Type 0 where
  pub ten : length x.word ≡ 10
  pub rest : new.rest ≡ old.rest
  pub last : bits 10 new.last ≡ x.word
  pub rd : new.rd ≡ after old.rd (number_now old x)
  pub read : r ≡ reading old.rd (number_now old x)

pub next_char : (old new : Chars) (order : RxOrder) (w : ℕ) (r : Reading) → new.rest ≡ old.rest → new.last ≡ w
    → new.rd ≡ after old.rd (value (ten_across old.rest (bits 10 old.last) (bits 10 w))) → r ≡ reading old.rd (value (ten_across old.rest (bits 10 old.last) (bits 10 w)))
    → NextChar old new (record { order = order; word = bits 10 w }) r
unfolding number_now
next_char old new order w r rest last rd read = record { ten = length-bits 10 w; rest = rest; last = ap (bits 10) last; rd = rd; read = read }

module _ (k new : Chain) (p : Params) (t : Timing) (lane : ℕ) (taken : List Taken) (x : Taken) (r : Reading) (tens : AreTens taken)
    (o : IsLocked k p t lane taken) (n : NextChar k.chars new.chars x r) where
  before : Lock
  before = lock_at (bits_taken taken) o.place

  now : Lock
  now = lock_at (bits_taken (taken ++ x ∷ [])) o.place

  tens_now : AreTens (taken ++ x ∷ [])
  tens_now = are_tens-more taken x tens n.ten

  reads_now : ReadsOn new.chars (taken ++ x ∷ []) o.place
  reads_now = reads-on k.chars new.chars taken x o.place o.reads n.ten n.rest n.last n.rd

  read_now : now.read ≡ before.read ++ r ∷ []
  unfolding now before
  read_now = read-on k.chars taken x o.place o.reads n.ten ∙ ap (λ s. before.read ++ s ∷ []) (sym n.read)

  -- the lane has started, with this tick or before
  module _ (since : List Reading) (s : Start) (starts : new.start ≡ Some s) (st : IsStarted s p t lane (taken ++ x ∷ []) now)
      (since_now : since_start now ≡ since ++ r ∷ []) (entries : entries_b p t lane taken ≡ if_inside s.inside p since) where
    locked_now : IsLocked new p t lane (taken ++ x ∷ [])
    unfolding now
    locked_now = record { place = o.place; reads = reads_now; started = rw starts st }

    entries_now : entries_b p t lane (taken ++ x ∷ []) ≡ if_inside s.inside p (since_start now)
    unfolding now locked_now
    entries_now = entries-started p t lane (taken ++ x ∷ []) now s.inside (lock-locked new p t lane (taken ++ x ∷ []) tens_now locked_now) st.begun
        (ap (is_inside t) (sym st.offset) ∙ sym st.window)

    does_started : (step : Step) → StepOf step s.inside p since r → Does step new p t lane taken x
    unfolding if_inside
    does_started Stay e = (locked_now, entries_now ∙ ap (λ b. if_inside b p (since_start now)) e ∙ sym (entries ∙ ap (λ b. if_inside b p since) e))
    does_started (Keep v) g =
        let old : entries_b p t lane taken ≡ entries_since p since = entries ∙ ap (λ b. if_inside b p since) g.0 in
        let e = g.1 in (
          locked_now,
          record {
            entry = e.entry;
            added = entries_now ∙ ap (λ b. if_inside b p (since_start now)) g.0 ∙ ap (entries_since p) since_now ∙ e.added ∙ ap (λ es. es ++ e.entry ∷ []) (sym old);
            gives = e.gives;
            in_order = rw old (in_order p since (since ++ r ∷ []) e.entry e.added);
          },
        )
    does_started Drop e = absurd e

  -- the lane started before
  pub goes_on : (s new_s : Start) (step : Step) → k.start ≡ Some s → new.start ≡ Some new_s
      → Reads step s new_s p lane (since_start (lock_at (bits_taken taken) o.place)) r → Does step new p t lane taken x
  unfolding now before if_inside
  goes_on s new_s step old_is new_is reads =
      let st : IsStarted s p t lane taken before = rw old_is at o.started in
      let inside = o.reads.inside in
      let bs : List Bool = bits_taken taken in
      let since_now : since_start now ≡ since_start before ++ r ∷ [] =
      ap from_other read_now ∙ from_other-append_some before.read (r ∷ []) st.begun in
      let order = order_of_start-more taken o.place (x ∷ []) tens inside st.begun in
      let offset : new_s.offset ≡ (order_at (taken ++ x ∷ []) (tick_of_start now)).offset = reads.offset ∙ st.offset ∙ sym (ap (λ q. q.offset) order) in
      let st_now : IsStarted new_s p t lane (taken ++ x ∷ []) now = record {
        begun = ap is_empty since_now ∙ is_empty-append (since_start before) (r ∷ []) st.begun;
        armed = ap (λ q. q.armed) order ∙ st.armed;
        offset = offset;
        window = reads.inside ∙ st.window ∙ ap (is_inside t) (sym reads.offset);
        has_read = rw since_now reads.has_read;
      } in
      let locked = lock-locked k p t lane taken tens o in
      let entries : entries_b p t lane taken ≡ if_inside new_s.inside p (since_start before) =
      entries-started p t lane taken before s.inside locked st.begun (ap (is_inside t) (sym st.offset) ∙ sym st.window)
      ∙ ap (λ b. if_inside b p (since_start before)) (sym reads.inside) in
      does_started (since_start before) new_s new_is st_now since_now entries step reads.step_of

  -- the lane has not started before
  module _ (unstarted : k.start ≡ None) where
    none_before : since_start before ≡ []
    unfolding before
    none_before = rw unstarted at o.started

    entries_before : entries_b p t lane taken ≡ []
    entries_before = entries-not_started k p t lane taken tens o unstarted

    pub stays : new.start ≡ None → is_comma r ≡ true → Does Stay new p t lane taken x
    unfolding now before from_other
    stays still comma =
        let none : since_start now ≡ [] = ap from_other read_now ∙ from_other-append_none before.read (r ∷ []) none_before ∙ (rw comma refl) in
        let locked : IsLocked new p t lane (taken ++ x ∷ []) = record { place = o.place; reads = reads_now; started = rw still none } in
        (locked, entries-unstarted p t lane (taken ++ x ∷ []) now (lock-locked new p t lane (taken ++ x ∷ []) tens_now locked) none ∙ sym entries_before)

    module _ (other : is_comma r ≡ false) where
      since_one : since_start now ≡ r ∷ []
      unfolding now before from_other
      since_one = ap from_other read_now ∙ from_other-append_none before.read (r ∷ []) none_before ∙ (rw other refl)

      begun_now : is_empty (since_start now) ≡ false
      begun_now = ap is_empty since_one

      bits_now : bits_to_start now ≡ length (bits_taken taken) + (10 - new.chars.rest)
      unfolding now before
      bits_now =
          let reads = reads_now in
          let inside = o.reads.inside in
          let long = length-one taken x n.ten in
          let fits : o.place + 40 ≤ length (bits_taken (taken ++ x ∷ [])) = omega arith in
          let count = length-read (bits_taken (taken ++ x ∷ [])) o.place fits in
          let place = place-lock_at (bits_taken (taken ++ x ∷ [])) o.place in
          let one : length (since_start now) ≡ 1 = ap length since_one in
          let some : length now.read ≡ length before.read + 1 = ap length read_now ∙ length-append before.read (r ∷ []) in
          let rest = reads.rest in
          omega arith

      order_now : order_at (taken ++ x ∷ []) (tick_of_start now) ≡ x.order
      order_now =
          let l = length-bits_taken taken tens in
          let b = bits_now in
          let rest = reads_now.rest in
          let small : new.chars.rest < 10 = omega arith in
          let tick : tick_of_start now ≡ length taken = omega arith in
          ap (order_at (taken ++ x ∷ [])) tick ∙ ap (λ q. q.order) (get_or-append_seam taken x [] (record { order = no_order; word = [] }))

      pub starts_now : (s : Start) (step : Step) → x.order.armed ≡ true → new.start ≡ Some s → s.offset ≡ x.order.offset → s.inside ≡ is_inside t s.offset
          → HasRead s.lane p lane (r ∷ []) → StepOf step s.inside p [] r → Does step new p t lane taken x
      unfolding if_inside
      starts_now s step armed is offset inside has_read step_of =
          let st : IsStarted s p t lane (taken ++ x ∷ []) now = record {
            begun = begun_now;
            armed = ap (λ q. q.armed) order_now ∙ armed;
            offset = offset ∙ sym (ap (λ q. q.offset) order_now);
            window = inside;
            has_read = rw since_one has_read;
          } in
          let nothing : (b : Bool) → [] ≡ if_inside b p [] = λ b. elim b as (λ c. [] ≡ if_inside c p []) [ true ↦ sym (entries_since-nothing p) | false ↦ refl ] in
          does_started [] s is st since_one (entries_before ∙ nothing s.inside) step step_of

      pub drops : x.order.armed ≡ false → Does Drop new p t lane taken x
      unfolding now
      drops unarmed =
          let unarmed_now = ap (λ q. q.armed) order_now ∙ unarmed in
          let reads = reads_now in (
            λ h hunted.
                record {
                  from = bits_to_start now;
                  searches = searches-drop (taken ++ x ∷ []) reads.from o.place tens_now reads.searches reads.least reads.inside begun_now unarmed_now;
                  hunted = rw (bits_now, bits_taken-one taken x, drop-append-add (bits_taken taken) x.word (10 - new.chars.rest)) hunted;
                },
            entries_before,
          )

-- ---- reports

pub report-unstarted : (k : Chain) (p : Params) (t : Timing) (lane : ℕ) (taken : List Taken) → AreTens taken → IsLocked k p t lane taken → k.start ≡ None
    → ◌≡◌ {A = LaneReport} (record { locked = true; started = None; lost = false; ilas = Idle }) (report_b p t lane taken)
unfolding report_b is_lost ilas_state faults_from alignments_from some_rest
report-unstarted k p t lane taken tens o unstarted =
    let none : since_start (lock_at (bits_taken taken) o.place) ≡ [] = rw unstarted at o.started in
    sym (ap (report_of p lane taken) (lock-locked k p t lane taken tens o) ∙ (rw none refl))

report-of_started : (s : Start) (p : Params) (t : Timing) (lane : ℕ) (taken : List Taken) (l : Lock) (lost : Bool) (ilas : IlasState) → IsStarted s p t lane taken l
    → lost ≡ is_lost p (since_start l) → ilas ≡ ilas_state p lane (since_start l)
    → ◌≡◌ {A = LaneReport} (record { locked = true; started = Some s.offset; lost = lost; ilas = ilas }) (report_of p lane taken (Some l))
report-of_started s p t lane taken l lost ilas st lost_is ilas_is =
    let started : Some s.offset ≡ start_of taken l =
    ap Some st.offset ∙ sym (ap (λ e. if e then None else Some (order_at taken (tick_of_start l)).offset) st.begun) in
    ap (λ q. record { locked = true; started = q; lost = lost; ilas = ilas }) started
    ∙ ap (λ q. record { locked = true; started = start_of taken l; lost = q; ilas = ilas }) lost_is
    ∙ ap (λ q. record { locked = true; started = start_of taken l; lost = is_lost p (since_start l); ilas = q }) ilas_is

pub report-started : (k : Chain) (s : Start) (p : Params) (t : Timing) (lane : ℕ) (taken : List Taken) (lost : Bool) (ilas : IlasState) → AreTens taken → IsLocked k p t lane taken
    → k.start ≡ Some s → ((since : List Reading) → HasRead s.lane p lane since → lost ≡ is_lost p since)
    → ((since : List Reading) → HasRead s.lane p lane since → ilas ≡ ilas_state p lane since)
    → ◌≡◌ {A = LaneReport} (record { locked = true; started = Some s.offset; lost = lost; ilas = ilas }) (report_b p t lane taken)
unfolding report_b
report-started k s p t lane taken lost ilas tens o is lost_is ilas_is =
    let st : IsStarted s p t lane taken (lock_at (bits_taken taken) o.place) = rw is at o.started in
    report-of_started s p t lane taken (lock_at (bits_taken taken) o.place) lost ilas st (lost_is _ st.has_read) (ilas_is _ st.has_read)
    ∙ sym (ap (report_of p lane taken) (lock-locked k p t lane taken tens o))
