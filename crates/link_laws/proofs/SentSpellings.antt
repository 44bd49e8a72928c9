-- What an 8b/10b lane sends in a tick of a run is the spelling of a character.
use Rattle.std.proofs.Common.{◌≡◌, ℕ, ◌+◌, ◌-◌, ◌/◌, ◌%◌, ◌==◌, ◌<◌, ◌&&◌, nat_le, if◌then◌else◌, Bool, true, false, List, [], ◌∷◌, ◌++◌, length, map, get_or, slice_index, Option, Some, None, inl, inr, refl, ap, ◌∙◌, length-append, arith}
use Rattle.std.specs.List.{flat_map}
use Rattle.std.specs.Option.{IsSome}
use Rattle.std.proofs.Math.Seq.{get_or-append_seam}
use Rattle.std.proofs.lemmas.Bool.{cases_Bool}
use Rattle.std.proofs.lemmas.List.{map_push}
use Rattle.jesd_base.specs.Bits.{bits}
use Rattle.lane_scramble.specs.Scrambling.{scrambled15}
use Rattle.link_params.specs.declared.fields.Mode.TheVariants.{B}
use Rattle.link_params.specs.declared.fields.Params.{Params}
use Rattle.link_params.specs.declared.orders.TxOrder.{TxOrder}
use Rattle.link_params.specs.declared.orders.TxOrder.TheVariants.{Comma, Ilas, Data as DataOrder, Silent, Block}
use Rattle.link_params.specs.Config.{config_octets}
use Rattle.link_params.specs.Laws.{broken_law}
use Rattle.link_params.specs.Lanes.{Handed}
use Rattle.link_params.specs.Numbers.{period}
use Rattle.code_8b10b.specs.declared.character.Rd.{Rd}
use Rattle.code_8b10b.specs.declared.character.Rd.TheVariants.{Minus}
use Rattle.code_8b10b.specs.declared.character.Char.{Char}
use Rattle.code_8b10b.specs.declared.character.Char.TheVariants.{Data, Control}
use Rattle.code_8b10b.specs.Code.{spelling}
use Rattle.ilas.specs.Sequence.{ilas_char}
use Rattle.lane_b.specs.Sent.{char_of, coded_octets, data_char, data_octets, going_on, is_first_data, replaced, sent_b, sent_words}
use Rattle.lane_b.specs.kept.Senders.{HasSpellings, rd_after}
use Rattle.lane_b.proofs.SentWords.{data_octets-more, sent_words-more}
use Rattle.lane_b.proofs.Spelled.{comma-spelled, due-spelled, ilas-spelled}
use Rattle.lane_b.specs.Received.{lanes_b}
use Rattle.scenario.specs.Plans.{Plan}
use Rattle.link_model.specs.Moments.{History}
use Rattle.link_model.specs.Sends.{handed_since, last_of, sent_by}
use Rattle.link_model.proofs.NextMoment.{next}
use Rattle.link_model.proofs.LaneHistory.{sent-lane}
use Rattle.link_laws.proofs.SmallOctets.{config-small, handed-small, octets-small}

-- ---- the character of a tick

-- data among five cases is one of the two octets
one-of-five-small : (a b c d : Bool) (config x o : ℕ) → config < 256 → x < 256
    → (if a then Control 0x1C else
    (if b then Control 0x7C else (if c then Control 0x9C else (if d then Data config else Data x))))
    ≡ Data o → o < 256
one-of-five-small true b c d config x o first second e = let bad : Control 0x1C ≡ Data o = e in
    absurd (cc)
one-of-five-small false true c d config x o first second e = let bad : Control 0x7C ≡ Data o = e in
    absurd (cc)
one-of-five-small false false true d config x o first second e = let bad : Control 0x9C ≡ Data o =
    e in absurd (cc)
one-of-five-small false false false true config x o first second e = let is : Data config ≡ Data o =
    e in let same : config ≡ o = cc in omega arith
one-of-five-small false false false false config x o first second e = let is : Data x ≡ Data o =
    e in let same : x ≡ o = cc in omega arith

ilas-octet-small : (p : Params) (lane x o : ℕ) → broken_law p ≡ None → p.mode ≡ B → lane < p.l
    → ilas_char p lane x ≡ Data o → o < 256
unfolding ilas_char
ilas-octet-small p lane x o legal mode below e =
    let n : ℕ = period p in
    one-of-five-small (x % n == 0) (x % n + 1 == n) ((x / n == 1) && (x % n == 1))
    ((x / n == 1) && nat_le (x % n) 15)
    (get_or (config_octets p lane) (x % n - 2) 0) (x % 256) o
    (config-small p lane (x % n - 2) legal mode below) (omega arith) e

-- the last of the data octets
last-going-on : (octets : List ℕ) (h : Handed)
    → get_or (going_on octets h) (length (going_on octets h) - 1) 0 ≡ h.octets
last-going-on octets h = elim (cases_Bool (is_first_data h.order)) [
  | inl first ↦ rw first refl
  | inr later ↦
      let long = length-append octets (h.octets ∷ []) in
      let last : length (octets ++ h.octets ∷ []) - 1 ≡ length octets = omega arith in
      rw (later, last) (get_or-append_seam octets h.octets [] 0)
]

-- and its coded octet
coded-small : (p : Params) (octets : List ℕ) (k : ℕ) → get_or octets k 0 < 256
    → get_or (coded_octets p octets) k 0 < 256
coded-small p octets k small = elim (cases_Bool p.scr) [
  | inl scr ↦ rw scr (octets-small (length octets) (scrambled15 (flat_map (bits 8) octets)) k)
  | inr plain ↦ rw plain small
]

data-char-spelled : (p : Params) (octets : List ℕ) → get_or octets (length octets - 1) 0 < 256
    → HasSpellings (data_char p octets)
unfolding data_char
data-char-spelled p octets small =
    let coded = coded_octets p octets in
    due-spelled p coded (replaced p coded (length octets - 1)) (length octets - 1)
    (coded-small p octets (length octets - 1) small)

char-spelled : (p : Params) (lane : ℕ) (before : List Handed) (h : Handed) (order : TxOrder)
    → broken_law p ≡ None → p.mode ≡ B → lane < p.l → h.octets < 256
    → HasSpellings (char_of p lane (before ++ h ∷ []) order)
char-spelled p lane before h Comma legal mode below small = comma-spelled
char-spelled p lane before h (Ilas x) legal mode below small =
    ilas-spelled p lane x (ilas_char p lane x) refl
    (λ o e. ilas-octet-small p lane x o legal mode below e)
char-spelled p lane before h (DataOrder x first) legal mode below small =
    data-char-spelled p (data_octets [] (before ++ h ∷ []))
    (rw (data_octets-more before h [], last-going-on (data_octets [] before) h) small)
char-spelled p lane before h Silent legal mode below small = comma-spelled
char-spelled p lane before h (Block x first) legal mode below small = comma-spelled

-- ---- the word of a tick

-- a word that spells some character at some disparity
pub record IsSpelled (word : ℕ) : Type 0 where
  pub rd : Rd
  pub char : Char
  pub is : spelling rd char ≡ Some word

-- these bits are those of a spelling
pub record AreSpelled (bs : List Bool) : Type 0 where
  pub word : ℕ
  pub spelled : IsSpelled word
  pub bits_are : bs ≡ bits 10 word

some-of : (o : Option ℕ) → IsSome o → (w : ℕ) × (o ≡ Some w)
some-of None some = let bad : false ≡ true = some in absurd (cc)
some-of (Some w) some = (w, refl)

last-pushed : (xs : List (List Bool)) (x d : List Bool) → last_of d (xs ++ x ∷ []) ≡ x
unfolding last_of
last-pushed [] x d = refl
last-pushed (y ∷ xs) x d = last-pushed xs x y

last-spelled : (p : Params) (lane : ℕ) (before : List Handed) (h : Handed)
    → HasSpellings (char_of p lane (before ++ h ∷ []) h.order)
    → AreSpelled (last_of [] (sent_b p lane (before ++ h ∷ [])))
last-spelled p lane before h spelled =
    let c : Char = char_of p lane (before ++ h ∷ []) h.order in
    let rd : Rd = rd_after Minus (sent_words p lane before) in
    let some = some-of (spelling rd c) (spelled.at rd) in
    record {
      word = some.0;
      spelled = record { rd = rd; char = c; is = some.1 };
      bits_are = ap (λ (ws : List ℕ). last_of [] (map (bits 10) ws))
          (sent_words-more p lane before h c rd some.0 refl refl some.1)
          ∙ ap (last_of []) (map_push (bits 10) (sent_words p lane before) some.0)
          ∙ last-pushed (map (bits 10) (sent_words p lane before)) (bits 10 some.0) [];
    }

-- what a lane sends in the tick that comes
pub sends-spelling : (s : Plan) (h : History) (lane : ℕ) → broken_law s.link.params ≡ None
    → s.link.params.mode ≡ B → lane < s.link.params.l
    → AreSpelled (get_or (next lanes_b s h).sent lane [])
unfolding sent_by
sends-spelling s h lane legal mode below =
    let p = s.link.params in
    let now : Handed =
    record {
      order = (next lanes_b s h).order;
      octets = slice_index (next lanes_b s h).handed lane;
    } in
    let before : List Handed = handed_since s h lane in
    rw (sent-lane lanes_b s h lane below)
    (last-spelled p lane before now
    (char-spelled p lane before now now.order legal mode below (handed-small s h lane mode)))
