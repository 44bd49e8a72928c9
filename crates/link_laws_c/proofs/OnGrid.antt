-- A place on the grid of the transmission that goes on: on a clean line true multiblocks are read
-- from there on.
use Rattle.std.proofs.Common.{◌≡◌, ℕ, zero, suc, ◌+◌, ◌-◌, ◌*◌, ◌<◌, ◌≤◌, Bool, false, List, length, drop, take, inl, inr, sym, ap, ◌∙◌, arith}
use Rattle.std.proofs.lemmas.Bool.{cases_lt, cases_Bool}
use Rattle.link_params.specs.declared.alarms.Device.{Device}
use Rattle.link_params.specs.declared.alarms.Device.TheVariants.{Tx}
use Rattle.link_params.specs.Laws.{is_b}
use Rattle.scenario.specs.Plans.{Plan}
use Rattle.link_model.specs.Carried.{delay_at}
use Rattle.link_model.specs.Edges.{edge_tick, is_reset, last_reset}
use Rattle.link_model.proofs.TxHistory.{last-reset-before, last-reset-now}
use Rattle.block_66b.specs.Blocks.{header}
use Rattle.lane_c.specs.Received.{lanes_c}
use Rattle.link_model.specs.Sessions.{first_tick}
use Rattle.link_model.specs.Wiring.{wire_of}
use Rattle.link_laws.specs.Premises.{Clean, GivesPhase, Undamaged}
use Rattle.link_laws.proofs.Phases.{HasEdges}
use Rattle.link_laws.proofs.SessionStages.{Goes, first-low}
use Rattle.link_laws_c.proofs.Framing.{CarriesSync}
use Rattle.link_laws_c.proofs.HeaderLists.{header_of}
use Rattle.link_laws_c.proofs.SentBits.{block_of, sent-block}
use Rattle.link_laws_c.proofs.SentForm.{header-of-block, word_bit}
use Rattle.link_laws_c.proofs.SentTicks.{octets_from}
use Rattle.link_laws_c.proofs.SessionBits.{block-taken, header-taken, length-session-bits}
use Rattle.link_laws_c.proofs.SessionWords.{bits_at}

-- ---- the edge that gives the phase of a tick gives it since it was captured

pub reset-since : (t : ℕ) (s : Plan) (d : Device) (q : ℕ) → last_reset s d t ≤ q → q ≤ t
    → last_reset s d q ≡ last_reset s d t
reset-since zero s d q low up = let z : q ≡ 0 = omega arith in ap (last_reset s d) z
reset-since (suc t) s d q low up = elim (cases_lt q (suc t)) [
  | inr last ↦ let z : q ≡ suc t = omega arith in ap (last_reset s d) z
  | inl before ↦ elim (cases_Bool (is_reset s d (suc t))) [
    | inl reset ↦ let now = last-reset-now s d (suc t) reset in absurd (omega arith)
    | inr none ↦ let same : last_reset s d (suc t) ≡ last_reset s d t =
        last-reset-before s d (suc t) none in reset-since t s d q (omega arith) (omega arith)
        ∙ sym same
  ]
]

pub gives-since : (s : Plan) (d : Device) (t q i : ℕ) → GivesPhase s d t i → edge_tick s d i ≤ q
    → q ≤ t → GivesPhase s d q i
gives-since s d t q i g low up =
    let since = g.since in
    let same = reset-since t s d q (omega arith) up in
    record { since = omega arith; by = low; first = λ k after. g.first k (omega arith) }

-- ---- a place of the present transmission

-- the place x of the session's bits is the first bit of what tick q sent
abbrev pub StandsFor : Plan → ℕ → ℕ → ℕ → ℕ → Type 0
StandsFor s h lane x q = 66 * q + delay_at s lane h ≡ 66 * first_tick lanes_c s h + x

module _ (s : Plan) (h t : ℕ) (g : Goes lanes_c s h t) (lane u : ℕ)
    (low : first_tick lanes_c s h ≤ u) (up : u ≤ t)
    (e : HasEdges s) (mode : is_b s.link.params.mode ≡ false) (below : lane < s.link.params.l)
    (damage : Undamaged s h t) where
  abbrev bs : List Bool
  bs = bits_at lanes_c s lane u

  -- each whole block behind tick h is one of the transmission
  pub block-of-place : (x q i n : ℕ) → Clean s h t → GivesPhase s Tx t i → edge_tick s Tx i ≤ q + n
      → StandsFor s h lane x q
      → 66 * (h + 1) ≤ 66 * first_tick lanes_c s h + (x + 66 * n) → x + 66 * suc n ≤ length bs
      → take 66 (drop (x + 66 * n) bs) ≡ block_of s.link.params
      (octets_from s (wire_of s lane) (edge_tick s Tx i) (suc u)) (q + n - edge_tick s Tx i)
  block-of-place x q i n clean gives from is after inside =
      let long = length-session-bits s h t g lane u low up e mode below in
      let there : StandsFor s h lane (x + 66 * n) (q + n) = omega arith in
      block-taken s h t g lane u low up e mode below (x + 66 * n) (q + n) clean after
      (omega arith) there
      ∙ sent-block s (wire_of s lane) (q + n) i (suc u) e mode (e.wired lane below)
      (gives-since s Tx t (q + n) i gives from (omega arith)) (omega arith)

  -- the headers carry its sync bits
  pub carries-grid : (x q i : ℕ) → GivesPhase s Tx t i → edge_tick s Tx i ≤ q
      → StandsFor s h lane x q
      → CarriesSync bs x
      (λ n. word_bit s.link.params (octets_from s (wire_of s lane) (edge_tick s Tx i) (suc u))
      (q - edge_tick s Tx i + n))
  carries-grid x q i gives from is n some inside =
      let f = first-low lanes_c s h t g in
      let os = octets_from s (wire_of s lane) (edge_tick s Tx i) (suc u) in
      let long = length-session-bits s h t g lane u low up e mode below in
      let there : StandsFor s h lane (x + 66 * n) (q + n) = omega arith in
      let number : q + n - edge_tick s Tx i ≡ q - edge_tick s Tx i + n = omega arith in
      header-taken s h t g lane u low up e mode below (x + 66 * n) (q + n) damage (omega arith)
      (omega arith) there
      ∙ ap header
      (sent-block s (wire_of s lane) (q + n) i (suc u) e mode (e.wired lane below)
      (gives-since s Tx t (q + n) i gives (omega arith) (omega arith)) (omega arith))
      ∙ header-of-block (word_bit s.link.params os (q + n - edge_tick s Tx i)) _
      ∙ ap (λ (m : ℕ). header_of (word_bit s.link.params os m)) number
