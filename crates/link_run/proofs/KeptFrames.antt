-- Frames in two arrays: times and marks in one, words in the other.
use Rattle.std.proofs.Common.{◌≡◌, ◌≤◌, ◌<◌, ◌+◌, ◌*◌, ◌∙◌, ℕ, suc, Option, List, [], ◌∷◌, ◌++◌, length, get_or, take, drop, map, refl, sym, ap, ap₂, arith}
use Rattle.std.proofs.Math.Nat.{mul-le-mul_right}
use Rattle.std.proofs.Math.ListN.{get_or-append}
use Rattle.std.proofs.Math.Seq.{get_or-append_seam}
use Rattle.std.proofs.lemmas.List.{drop_at, drop-append-le, get_or-map, length-append, length-drop, length-map, map-append, take-append-le, take_all}
use Rattle.scenario.specs.Plans.{numbers_from}
use Rattle.scenario.specs.declared.report_row.Totals.{Totals}
use Rattle.link_params.specs.declared.fields.Params.{Params}
use Rattle.link_model.specs.Moments.{Delivered}
use Rattle.link_model.proofs.NumberLists.{get_or-numbers, length-numbers, map-numbers, numbers-more}
use Rattle.link_run.specs.Frames.{Kept, no_delivered}
use Rattle.link_run.specs.declared.frame_list.Left.{Left}
use Rattle.link_run.specs.kept.FrameLists.{frames_kept, no_left}

-- frame i
abbrev frame_at : List Left → List ℕ → ℕ → ℕ → Delivered
frame_at frames words size i = record {
  left = (get_or frames i no_left).time;
  mark = (get_or frames i no_left).mark;
  words = take size (drop (i * size) words);
}

pub length-kept : (frames : List Left) (words : List ℕ) (size : ℕ)
    → length (frames_kept frames words size) ≡ length frames
length-kept frames words size =
    length-map (numbers_from 0 (length frames)) (frame_at frames words size)
    ∙ length-numbers (length frames) 0

pub kept-at : (frames : List Left) (words : List ℕ) (size i : ℕ) → i < length frames
    → get_or (frames_kept frames words size) i no_delivered ≡ frame_at frames words size i
kept-at frames words size i below =
    let numbers = numbers_from 0 (length frames) in
    let within : i < length numbers = rw (length-numbers (length frames) 0) below in
    get_or-map (frame_at frames words size) numbers i 0 no_delivered within
    ∙ ap (frame_at frames words size) (get_or-numbers (length frames) i 0 0 below
    ∙ (let e : 0 + i ≡ i = omega arith in e))

rows-before : (i n size : ℕ) → i < n → i * size + size ≤ n * size
rows-before i n size below =
    let more : i + 1 ≤ n = omega arith in
    let product : (i + 1) * size ≤ n * size = mul-le-mul_right size more in
    omega arith

-- frames before the last one are as they were
same-before : (frames : List Left) (words : List ℕ) (f : Left) (more : List ℕ) (size i : ℕ)
    → length words ≡ length frames * size → i < length frames
    → frame_at (frames ++ f ∷ []) (words ++ more) size i ≡ frame_at frames words size i
same-before frames words f more size i whole below =
    let e : get_or (frames ++ f ∷ []) i no_left ≡ get_or frames i no_left =
    get_or-append frames (f ∷ []) no_left i below in
    let long = rows-before i (length frames) size below in
    let start : i * size ≤ length words = omega arith in
    let rest : size ≤ length (drop (i * size) words) = rw length-drop (omega arith) in
    let w : take size (drop (i * size) (words ++ more)) ≡ take size (drop (i * size) words) =
    ap (take size) (drop-append-le (i * size) words more start)
    ∙ take-append-le size (drop (i * size) words) more rest in
    ap₂ (λ (x : Left) (ws : List ℕ). record { left = x.time; mark = x.mark; words = ws }) e w

-- one frame more
pub kept-more : (frames : List Left) (words : List ℕ) (f : Left) (more : List ℕ) (size : ℕ)
    → length words ≡ length frames * size → length more ≡ size
    → frames_kept (frames ++ f ∷ []) (words ++ more) size
    ≡ frames_kept frames words size ++ (record { left = f.time; mark = f.mark; words = more }) ∷ []
kept-more frames words f more size whole count =
    let n = length frames in
    let at : ℕ → Delivered = frame_at (frames ++ f ∷ []) (words ++ more) size in
    let longer : length (frames ++ f ∷ []) ≡ suc n =
    length-append frames (f ∷ []) ∙ (let e : n + 1 ≡ suc n = omega arith in e) in
    let e : get_or (frames ++ f ∷ []) n no_left ≡ f = get_or-append_seam frames f [] no_left in
    let w : take size (drop (n * size) (words ++ more)) ≡ more =
    ap (take size) (drop_at words more (n * size) whole) ∙ take_all size more (omega arith) in
    let first : 0 + n ≡ n = omega arith in
    let last : at (0 + n) ≡ record { left = f.time; mark = f.mark; words = more } =
    ap at first ∙
    ap₂ (λ (x : Left) (ws : List ℕ). record { left = x.time; mark = x.mark; words = ws }) e w in
    ap (λ k. map at (numbers_from 0 k)) longer
    ∙ ap (map at) (numbers-more n 0)
    ∙ map-append at (numbers_from 0 n) ((0 + n) ∷ [])
    ∙ ap₂ (λ (a : List Delivered) (b : Delivered). a ++ b ∷ [])
    (map-numbers at (frame_at frames words size) n 0
    (λ i below. same-before frames words f more size i whole (omega arith))) last

-- a list with room keeps the next frame
pub kept-one : (old : Kept) (p : Params) (room size : ℕ) (frames more : List Left)
    (words longer : List ℕ) (totals : Option Totals) (f : Left) (new : List ℕ)
    → record { params = p; room = room; frames = frames_kept frames words size; totals = totals } ≡ old
    → more ≡ frames ++ f ∷ [] → longer ≡ words ++ new
    → length words ≡ length frames * size → length new ≡ size → length frames < room
    → record { params = p; room = room; frames = frames_kept more longer size; totals = totals }
    ≡ record old {
      frames = take old.room (old.frames ++ (record { left = f.time; mark = f.mark; words = new }) ∷ []);
    }
kept-one old p room size frames more words longer totals f new is one all whole count few =
    let x : Delivered = record { left = f.time; mark = f.mark; words = new } in
    let before = frames_kept frames words size in
    let had = length-kept frames words size in
    let long : length (before ++ x ∷ []) ≤ room = rw length-append (omega (arith, had)) in
    let e : frames_kept more longer size ≡ take room (before ++ x ∷ []) =
    ap₂ (λ (a : List Left) (b : List ℕ). frames_kept a b size) one all
    ∙ kept-more frames words f new size whole count
    ∙ sym (take_all room (before ++ x ∷ []) long) in
    ap (λ (l : List Delivered). record { params = p; room = room; frames = l; totals = totals }) e
    ∙ ap (λ (v : Kept). record v { frames = take v.room (v.frames ++ x ∷ []) }) is

-- a full one does not
pub kept-full : (old : Kept) (p : Params) (room size : ℕ) (frames : List Left) (words : List ℕ)
    (totals : Option Totals) (x : Delivered)
    → record { params = p; room = room; frames = frames_kept frames words size; totals = totals } ≡ old
    → room ≤ length frames → length frames ≤ room
    → old ≡ record old { frames = take old.room (old.frames ++ x ∷ []) }
kept-full old p room size frames words totals x is full few =
    let before = frames_kept frames words size in
    let had = length-kept frames words size in
    let e : before ≡ take room (before ++ x ∷ []) =
    sym (take-append-le room before (x ∷ []) (omega (arith, had))
    ∙ take_all room before (omega (arith, had))) in
    sym is
    ∙ ap (λ (l : List Delivered). record { params = p; room = room; frames = l; totals = totals }) e
    ∙ ap (λ (v : Kept). record v { frames = take v.room (v.frames ++ x ∷ []) }) is

pub kept-none : (words : List ℕ) (size : ℕ) → frames_kept [] words size ≡ []
unfolding numbers_from
kept-none words size = refl

-- the frames that are kept, by those of the list
pub count-kept : (v p : Kept) (frames : List Left) (words : List ℕ) (size : ℕ) → v ≡ p
    → v.frames ≡ frames_kept frames words size → length p.frames ≡ length frames
count-kept v p frames words size is kept =
    sym (ap (λ (x : Kept). length x.frames) is) ∙ ap length kept ∙ length-kept frames words size

pub frame-kept : (v p : Kept) (frames : List Left) (words : List ℕ) (size i : ℕ) → v ≡ p
    → v.frames ≡ frames_kept frames words size → i < length frames
    → record {
      left = (get_or frames i no_left).time;
      mark = (get_or frames i no_left).mark;
      words = take size (drop (i * size) words);
    } ≡ get_or p.frames i no_delivered
frame-kept v p frames words size i is kept below =
    sym (kept-at frames words size i below)
    ∙ sym (ap (λ (l : List Delivered). get_or l i no_delivered) kept)
    ∙ ap (λ (x : Kept). get_or x.frames i no_delivered) is

pub words-within : (i n size : ℕ) → i < n → i * size + size ≤ n * size
words-within = rows-before
