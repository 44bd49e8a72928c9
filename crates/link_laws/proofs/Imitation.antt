-- Nothing that an 8b/10b lane sends looks like its lock, but where a character begins: the law of
-- the code over the words of a run.
use Rattle.std.proofs.Common.{◌≡◌, ℕ, zero, suc, ◌+◌, ◌%◌, ◌<◌, ◌≤◌, Bool, true, List, [], ◌∷◌, ◌++◌, append-nil, drop, get_or, None, inl, inr, refl, sym, ap, ap₂, ◌∙◌, arith}
use Rattle.std.specs.List.{flat_map}
use Rattle.std.proofs.lemmas.Bool.{cases_lt}
use Rattle.std.proofs.lemmas.List.{drop-append-le, drop_all}
use Rattle.std.proofs.lemmas.List.Concat.{flat_map-append}
use Rattle.jesd_base.specs.Bits.{bits}
use Rattle.link_params.specs.declared.alarms.Device.TheVariants.{Tx}
use Rattle.link_params.specs.declared.fields.Mode.TheVariants.{B}
use Rattle.link_params.specs.Laws.{broken_law}
use Rattle.code_8b10b.specs.laws.CommaLaws.{AreSpellings}
use Rattle.code_8b10b.specs.Commas.{stands_at}
use Rattle.code_8b10b.proofs.Characters.{no_imitation}
use Rattle.lane_b.specs.Received.{lanes_b}
use Rattle.scenario.specs.Plans.{Plan}
use Rattle.link_model.specs.Edges.{last_reset}
use Rattle.link_model.specs.Moments.{History, Moment}
use Rattle.link_model.specs.Run.{run}
use Rattle.link_model.proofs.RunTicks.{length-run, run-suc}
use Rattle.link_model.proofs.NextMoment.{next}
use Rattle.link_laws.specs.Laws.{IsPlanRead, NoImitation, NoImitationAcross}
use Rattle.link_laws.proofs.SentSpellings.{AreSpelled, IsSpelled, sends-spelling}

-- spellings, one after another
pub record SendsSpellings (bs : List Bool) : Type 0 where
  pub words : List ℕ
  pub spelled : AreSpellings words
  pub bits_are : bs ≡ flat_map (bits 10) words

spellings-more : (ws : List ℕ) (w : ℕ) → AreSpellings ws → IsSpelled w → AreSpellings (ws ++ w ∷ [])
spellings-more [] w all one = ((one.rd, one.char, one.is), tt)
spellings-more (x ∷ ws) w all one = (all.0, spellings-more ws w all.1 one)

sends-more : (bs more : List Bool) → SendsSpellings bs → AreSpelled more
    → SendsSpellings (bs ++ more)
sends-more bs more all one = record {
  words = all.words ++ one.word ∷ [];
  spelled = spellings-more all.words one.word all.spelled one.spelled;
  bits_are = ap₂ (λ (x y : List Bool). x ++ y) all.bits_are
      (one.bits_are ∙ sym (append-nil (bits 10 one.word)))
      ∙ sym (flat_map-append (bits 10) all.words (one.word ∷ []));
}

-- the bits that a lane sent in the ticks from one on
abbrev pub sent_from : Plan → ℕ → ℕ → ℕ → List Bool
sent_from s lane from t = flat_map (λ (m : Moment). get_or m.sent lane [])
    (drop from (run lanes_b s t))

sent-from-suc : (s : Plan) (lane from t : ℕ) → from ≤ t
    → sent_from s lane from (suc t) ≡ sent_from s lane from t
    ++ get_or (next lanes_b s (run lanes_b s t)).sent lane []
sent-from-suc s lane from t low =
    let of : Moment → List Bool = λ m. get_or m.sent lane [] in
    let h : History = run lanes_b s t in
    let long = length-run lanes_b s t in
    ap (λ (l : History). flat_map of (drop from l)) (run-suc lanes_b s t)
    ∙ ap (flat_map of) (drop-append-le from h (next lanes_b s h ∷ []) (omega arith))
    ∙ flat_map-append of (drop from h) (next lanes_b s h ∷ [])
    ∙ ap (λ (bs : List Bool). sent_from s lane from t ++ bs) (append-nil (of (next lanes_b s h)))

sent-from-late : (s : Plan) (lane from t : ℕ) → t ≤ from → sent_from s lane from t ≡ []
sent-from-late s lane from t late =
    let long = length-run lanes_b s t in
    ap (flat_map (λ (m : Moment). get_or m.sent lane []))
    (drop_all from (run lanes_b s t) (omega arith))

-- whatever tick they begin with, also across resets, they are spellings
pub sends-spellings : (t : ℕ) (s : Plan) (lane from : ℕ) → broken_law s.link.params ≡ None
    → s.link.params.mode ≡ B → lane < s.link.params.l
    → SendsSpellings (sent_from s lane from t)
sends-spellings zero s lane from legal mode below =
    rw (sent-from-late s lane from zero (omega arith))
    (record { words = []; spelled = tt; bits_are = refl })
sends-spellings (suc t) s lane from legal mode below = elim (cases_lt t from) [
  | inl late ↦ rw (sent-from-late s lane from (suc t) (omega arith))
      (record { words = []; spelled = tt; bits_are = refl })
  | inr low ↦
      rw (sent-from-suc s lane from t low)
      (sends-more (sent_from s lane from t) _ (sends-spellings t s lane from legal mode below)
      (sends-spelling s (run lanes_b s t) lane legal mode below))
]

-- so the forty bits of a lock stand only where a character begins
pub none-between : (s : Plan) (lane from t x : ℕ) → broken_law s.link.params ≡ None
    → s.link.params.mode ≡ B → lane < s.link.params.l
    → stands_at (sent_from s lane from t) x ≡ true → x % 10 ≡ 0
none-between s lane from t x legal mode below stands =
    let all = sends-spellings t s lane from legal mode below in
    no_imitation all.words x all.spelled (ap (λ (bs : List Bool). stands_at bs x) (sym all.bits_are)
    ∙ stands)

pub none-across : (s : Plan) → IsPlanRead s → s.link.params.mode ≡ B
    → NoImitationAcross lanes_b s
none-across s read mode lane from t x below stands =
    none-between s lane from t x read.laws mode below stands

pub no-imitation : (s : Plan) → IsPlanRead s → s.link.params.mode ≡ B → NoImitation lanes_b s
no-imitation s read mode lane t x below in_run stands = none-between s lane (last_reset s Tx t)
    (t + 1) x read.laws mode below stands
