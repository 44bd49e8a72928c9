-- The alarms of a class, one lane more.
use Rattle.std.proofs.Common.{◌≡◌, ℕ, suc, ◌+◌, ◌<◌, List, [], ◌∷◌, ◌++◌, length, take, get_or, refl, sym, arith, append_assoc, append-nil}
use Rattle.std.proofs.lemmas.List.{length-take-le, take_more}
use Rattle.link_params.specs.declared.lane_report.LaneReport.{LaneReport}
use Rattle.link_params.specs.declared.alarms.Alarm.{Alarm}
use Rattle.bring_up.specs.Decisions.{alarms_from}

alarms-snoc : (alarm : ℕ → LaneReport → List Alarm) (xs : List LaneReport) (lane : ℕ) (r : LaneReport)
    → alarms_from lane alarm (xs ++ r ∷ []) ≡ alarms_from lane alarm xs ++ alarm (lane + length xs) r
unfolding alarms_from
alarms-snoc alarm [] lane r = let e : lane + 0 ≡ lane = omega arith in rw (e, append-nil) refl
alarms-snoc alarm (x ∷ xs) lane r =
    let e : suc lane + length xs ≡ lane + suc (length xs) = omega arith in
    rw (alarms-snoc alarm xs (suc lane) r, e) (sym (append_assoc (alarm lane x) _ _))

pub alarms-next : (alarm : ℕ → LaneReport → List Alarm) (xs : List LaneReport) (i : ℕ) (d : LaneReport) → i < length xs
    → alarms_from 0 alarm (take (i + 1) xs) ≡ alarms_from 0 alarm (take i xs) ++ alarm i (get_or xs i d)
alarms-next alarm xs i d lt =
    let long : length (take i xs) ≡ i = length-take-le i xs (omega arith) in
    let e : 0 + length (take i xs) ≡ i = omega arith in
    rw (take_more xs i d lt, alarms-snoc alarm (take i xs) 0 (get_or xs i d), e) refl

-- raised: what the lane's report raises
pub raised-next : (alarm : ℕ → LaneReport → List Alarm) (xs : List LaneReport) (i : ℕ) (d : LaneReport) (start now next raised : List Alarm) → i < length xs
    → now ≡ start ++ alarms_from 0 alarm (take i xs) → raised ≡ alarm i (get_or xs i d) → next ≡ now ++ raised → next ≡ start ++ alarms_from 0 alarm (take (i + 1) xs)
raised-next alarm xs i d start now next raised lt before here after =
    let more = alarms-next alarm xs i d lt in
    let joined : (start ++ alarms_from 0 alarm (take i xs)) ++ alarm i (get_or xs i d) ≡ start ++ (alarms_from 0 alarm (take i xs) ++ alarm i (get_or xs i d)) = append_assoc start _ _ in
    cc
