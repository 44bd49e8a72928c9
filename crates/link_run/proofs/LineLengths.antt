-- How long the line of a row is.
use Rattle.std.proofs.Common.{◌≡◌, ◌≤◌, ◌<◌, ◌+◌, ◌*◌, ◌^◌, ◌∙◌, ℕ, zero, suc, Bool, true, false, nat_le, if◌then◌else◌, None, List, [], ◌∷◌, ◌++◌, length, codes, decimal, refl, ap, arith}
use Rattle.std.proofs.Math.Nat.{mul-le-mul_left}
use Rattle.std.proofs.lemmas.Fmt.{length-decimal-le}
use Rattle.std.proofs.lemmas.List.{length-append}
use Rattle.link_params.specs.declared.fields.Params.{Params}
use Rattle.link_params.specs.declared.cells.Mark.{Mark}
use Rattle.link_params.specs.declared.cells.Mark.TheVariants as mark
use Rattle.link_params.specs.declared.alarms.Device.{Device}
use Rattle.link_params.specs.declared.alarms.Device.TheVariants as device
use Rattle.link_params.specs.declared.alarms.Alarm.{Alarm}
use Rattle.link_params.specs.declared.alarms.Alarm.TheVariants as alarm
use Rattle.link_params.specs.Links.{Link}
use Rattle.link_params.specs.Laws.{broken_law, is_b}
use Rattle.link_params.specs.Numbers.{period, lat_ticks, latency, depth, bound, octets_per_tick, wait}
use Rattle.link_params.specs.TimingLaws.{broken_timing}
use Rattle.link_params.proofs.LawFacts.{legal_sizes, timely}
use Rattle.scenario.specs.declared.report_row.Row.{Row}
use Rattle.scenario.specs.declared.report_row.Row.TheVariants as row
use Rattle.scenario.specs.declared.report_row.Totals.{Totals}
use Rattle.link_run.specs.Rows.{HasWords}
use Rattle.link_run.specs.kept.Lines.{AlarmFits, RowFits}
use Rattle.scenario.specs.Digits.{hex_digits, word_digits}
use Rattle.scenario.specs.ReportLines.{alarm_fields, device_name, fields_text, line, line_of, mark_name, word_fields}

short : (n : ℕ) → n < 2 ^ 32 → length (decimal n) ≤ 10
short n small = length-decimal-le 10 n (omega arith) (omega arith) (omega arith)

length-field : (f : List ℕ) (more : List (List ℕ))
    → length (fields_text (f ∷ more)) ≡ 1 + length f + length (fields_text more)
length-field f more =
    ap suc (length-append f (fields_text more))
    ∙ (let e : suc (length f + length (fields_text more)) ≡ 1 + length f + length (fields_text more) =
    omega arith in e)

length-line : (kind : List ℕ) (fields : List (List ℕ))
    → length (line kind fields) ≡ length kind + length (fields_text fields) + 1
length-line kind fields =
    let a = length-append kind (fields_text fields ++ codes "\n") in
    let b = length-append (fields_text fields) (codes "\n") in
    omega (arith, a, b)

length-hex : (n x : ℕ) → length (hex_digits n x) ≡ n
unfolding hex_digits
length-hex zero x = refl
length-hex (suc n) x = ap suc (length-hex n x)

length-words : (p : Params) (words : List ℕ) → word_digits p ≤ 8
    → length (fields_text (word_fields p words)) ≤ 9 * length words
length-words p [] few = omega arith
length-words p (w ∷ words) few =
    let a = length-field (hex_digits (word_digits p) w) (word_fields p words) in
    let b = length-hex (word_digits p) w in
    let c = length-words p words few in
    omega (arith, a, b, c)

one-field : (name : List ℕ) → length (fields_text (name ∷ [])) ≡ 1 + length name
one-field name = let a = length-field name [] in omega (arith, a)

two-fields : (name : List ℕ) (x : ℕ) → x < 2 ^ 32
    → length (fields_text (name ∷ decimal x ∷ [])) ≤ 12 + length name
two-fields name x fit =
    let a = length-field name (decimal x ∷ []) in
    let b = one-field (decimal x) in
    let c = short x fit in
    omega (arith, a, b, c)

three-fields : (name : List ℕ) (x y : ℕ) → x < 2 ^ 32 → y < 2 ^ 32
    → length (fields_text (name ∷ decimal x ∷ decimal y ∷ [])) ≤ 23 + length name
three-fields name x y fit fits =
    let a = length-field name (decimal x ∷ decimal y ∷ []) in
    let b = two-fields (decimal x) y fits in
    let c = short x fit in
    omega (arith, a, b, c)

phase-fields : (d : Device) (off : ℕ) → off < 2 ^ 32
    → length (fields_text (codes "sysref_phase" ∷ device_name d ∷ decimal off ∷ [])) ≤ 38
phase-fields device.Tx off fit =
    let a = length-field (codes "sysref_phase") (codes "tx" ∷ decimal off ∷ []) in
    let b = two-fields (codes "tx") off fit in
    omega (arith, a, b)
phase-fields device.Rx off fit =
    let a = length-field (codes "sysref_phase") (codes "rx" ∷ decimal off ∷ []) in
    let b = two-fields (codes "rx") off fit in
    omega (arith, a, b)

length-lane-id : (second : Bool) (lane lid : ℕ) → lane < 2 ^ 32 → lid < 2 ^ 32
    → length (fields_text (if second then codes "lane_id" ∷ decimal lane ∷ decimal lid ∷ []
    else codes "config_mismatch" ∷ decimal lane ∷ decimal 2 ∷ [])) ≤ 38
length-lane-id true lane lid fit fits =
    let a = three-fields (codes "lane_id") lane lid fit fits in omega (arith, a)
length-lane-id false lane lid fit fits =
    let a = three-fields (codes "config_mismatch") lane 2 fit (omega arith) in omega (arith, a)

length-alarm : (v : ℕ) (a : Alarm) → AlarmFits a → length (fields_text (alarm_fields v a)) ≤ 38
length-alarm v (alarm.LaneWindow lane offset) fit =
    let a = three-fields (codes "lane_window") lane offset fit.0 fit.1 in omega (arith, a)
length-alarm v (alarm.LaneMissing lane) fit =
    let a = two-fields (codes "lane_missing") lane fit in omega (arith, a)
length-alarm v (alarm.LaneLost lane) fit =
    let a = two-fields (codes "lane_lost") lane fit in omega (arith, a)
length-alarm v (alarm.NoLock lane) fit =
    let a = two-fields (codes "no_lock") lane fit in omega (arith, a)
length-alarm v (alarm.IlasFault lane place) fit =
    let a = three-fields (codes "ilas_fault") lane place fit.0 fit.1 in omega (arith, a)
length-alarm v (alarm.ConfigMismatch lane octet) fit =
    let a = three-fields (codes "config_mismatch") lane octet fit.0 fit.1 in omega (arith, a)
length-alarm v (alarm.SysrefPhase d off) fit = phase-fields d off fit
length-alarm v (alarm.LaneId lane lid) fit =
    length-lane-id (nat_le 2 v) lane lid fit.0 fit.1
length-alarm v alarm.StartTimeout fit =
    let a = one-field (codes "start_timeout") in omega (arith, a)

-- the numbers of a legal link are short
pub record AreShort (k : Link) : Type 0 where
  pub period_short : period k.params < 2 ^ 32
  pub ticks_short : lat_ticks k.params k.timing < 2 ^ 32
  pub latency_short : latency k.params k.timing < 2 ^ 32
  pub depth_short : depth k.params k.timing < 2 ^ 32
  pub bound_short : bound k.params k.timing < 2 ^ 32
  pub digits : word_digits k.params ≤ 8

at-most : (b : Bool) (x y n : ℕ) → x ≤ n → y ≤ n → (if b then x else y) ≤ n
at-most true x y n low high = low
at-most false x y n low high = high

pub legal-short : (k : Link) → broken_law k.params ≡ None → broken_timing k.params k.timing ≡ None
    → AreShort k
legal-short k laws timing =
    let p = k.params in
    let t = k.timing in
    let sizes = legal_sizes p laws in
    let time = timely p t timing in
    let waits : wait p ≤ 64 = at-most (is_b p.mode) 0 64 64 (omega arith) (omega arith) in
    let octets : octets_per_tick p ≤ 8 = at-most (is_b p.mode) 1 8 8 (omega arith) (omega arith) in
    let few : period p ≤ 1024 = sizes.period in
    let ticks : lat_ticks p t < 2112 = omega arith in
    let product : lat_ticks p t * octets_per_tick p ≤ lat_ticks p t * 8 =
    mul-le-mul_left (lat_ticks p t) octets in
    let word = sizes.word in
    let np = sizes.np in
    let sysref = time.sysref_period in
    record {
      period_short = omega arith;
      ticks_short = omega arith;
      latency_short = omega arith;
      depth_short = omega arith;
      bound_short = omega arith;
      digits = omega arith;
    }

-- a number in front of fields
number-field : (x : ℕ) (more : List (List ℕ)) → x < 2 ^ 32
    → length (fields_text (decimal x ∷ more)) ≤ 11 + length (fields_text more)
number-field x more fit =
    let a = length-field (decimal x) more in
    let b = short x fit in
    omega (arith, a, b)

four-fields : (x y z w : ℕ) (more : List (List ℕ)) → x < 2 ^ 32 → y < 2 ^ 32 → z < 2 ^ 32
    → w < 2 ^ 32
    → length (fields_text (decimal x ∷ decimal y ∷ decimal z ∷ decimal w ∷ more))
    ≤ 44 + length (fields_text more)
four-fields x y z w more fx fy fz fw =
    let a = number-field x (decimal y ∷ decimal z ∷ decimal w ∷ more) fx in
    let b = number-field y (decimal z ∷ decimal w ∷ more) fy in
    let c = number-field z (decimal w ∷ more) fz in
    let d = number-field w more fw in
    omega (arith, a, b, c, d)

length-mark : (m : Mark) → length (mark_name m) ≤ 5
length-mark mark.Ok = omega arith
length-mark mark.Fixed = omega arith
length-mark mark.Bad = omega arith

link-line : (v : ℕ) (k : Link) (words : List ℕ) → AreShort k
    → length (line_of v k row.Link words) ≤ 128
unfolding line_of
link-line v k words are =
    let p = k.params in
    let t = k.timing in
    let last = decimal (bound p t) ∷ [] in
    let a = length-line (codes "link") (decimal (period p) ∷ decimal (lat_ticks p t)
    ∷ decimal (latency p t) ∷ decimal (depth p t) ∷ last) in
    let b = four-fields (period p) (lat_ticks p t) (latency p t) (depth p t) last
    are.period_short are.ticks_short are.latency_short are.depth_short in
    let c = number-field (bound p t) [] are.bound_short in
    omega (arith, a, b, c)

end-line : (v : ℕ) (k : Link) (n : Totals) (words : List ℕ) → RowFits (row.End n)
    → length (line_of v k (row.End n) words) ≤ 128
unfolding line_of
end-line v k n words fit =
    let last = decimal n.fixed ∷ decimal n.bad ∷ decimal n.alarms ∷ decimal n.fullest ∷ [] in
    let a = length-line (codes "end") (decimal n.ticks ∷ decimal n.entered ∷ decimal n.delivered
    ∷ decimal n.ok ∷ last) in
    let b = four-fields n.ticks n.entered n.delivered n.ok last fit.ticks fit.entered fit.delivered fit.ok in
    let c = four-fields n.fixed n.bad n.alarms n.fullest [] fit.fixed fit.bad fit.alarms fit.fullest in
    omega (arith, a, b, c)

pub length-row : (v : ℕ) (k : Link) (r : Row) (words : List ℕ) → AreShort k → RowFits r
    → length (line_of v k r words) ≤ 128 + 9 * length words
unfolding line_of
length-row v k row.Link words are fit = let a = link-line v k words are in omega (arith, a)
length-row v k (row.Hunt t) words are fit =
    let a = length-line (codes "hunt") (decimal t ∷ []) in
    let b = one-field (decimal t) in
    let c = short t fit in
    omega (arith, a, b, c)
length-row v k (row.Arm t) words are fit =
    let a = length-line (codes "arm") (decimal t ∷ []) in
    let b = one-field (decimal t) in
    let c = short t fit in
    omega (arith, a, b, c)
length-row v k (row.Release t) words are fit =
    let a = length-line (codes "release") (decimal t ∷ []) in
    let b = one-field (decimal t) in
    let c = short t fit in
    omega (arith, a, b, c)
length-row v k (row.Alarm t x) words are fit =
    let a = length-line (codes "alarm") (decimal t ∷ alarm_fields v x) in
    let b = length-field (decimal t) (alarm_fields v x) in
    let c = short t fit.0 in
    let d = length-alarm v x fit.1 in
    omega (arith, a, b, c, d)
length-row v k (row.Enter o) words are fit =
    let a = length-line (codes "enter") (decimal o ∷ word_fields k.params words) in
    let b = length-field (decimal o) (word_fields k.params words) in
    let c = short o fit in
    let d = length-words k.params words are.digits in
    omega (arith, a, b, c, d)
length-row v k (row.Frame o m) words are fit =
    let a = length-line (codes "frame") (decimal o ∷ mark_name m ∷ word_fields k.params words) in
    let b = length-field (decimal o) (mark_name m ∷ word_fields k.params words) in
    let c = length-field (mark_name m) (word_fields k.params words) in
    let d = short o fit in
    let e = length-mark m in
    let f = length-words k.params words are.digits in
    omega (arith, a, b, c, d, e, f)
length-row v k (row.End n) words are fit = let a = end-line v k n words fit in omega (arith, a)

-- what the words of a row need
pub has-few : (p : Params) (r : Row) (words : List ℕ) → HasWords p r words
    → length words ≤ p.m * p.s
has-few p (row.Enter o) words h = let a = h.count in omega (arith, a)
has-few p (row.Frame o m) words h = let a = h.count in omega (arith, a)
has-few p row.Link words h = let a = ap length h in omega (arith, a)
has-few p (row.Hunt t) words h = let a = ap length h in omega (arith, a)
has-few p (row.Arm t) words h = let a = ap length h in omega (arith, a)
has-few p (row.Release t) words h = let a = ap length h in omega (arith, a)
has-few p (row.Alarm t x) words h = let a = ap length h in omega (arith, a)
has-few p (row.End n) words h = let a = ap length h in omega (arith, a)
