-- Lines that are not monitored can be left out: no other answer changes. The theorems are `left_out` and `skips`, of any program that has demand 2.
use Prim.Native.Nat.{ℕ, ◌*◌, ◌≤◌}
use mathlib.Core.Path.{◌≡◌, refl, sym, ap, subst, ◌∙◌}
use mathlib.Core.Bool.{Bool, true, false, cond, and-false}
use mathlib.Core.List.{List, [], ◌∷◌}
use lib.Dec.{ltb}
use lib.ListN.{length}
use borrow.Author.Tests.{lt-ltb, le-leb, eq-eqb}
use Rattle.laws.proofs.Tests.{chosen, and_goes}
use Rattle.sampling.specs.Formats.{row_of}
use Rattle.picture.specs.declared.Told.TheVariants.{Open}
use Rattle.picture.specs.Lines.{monitored, is_monitored, order_number, line_number}
use Rattle.picture.specs.Pictures as picture
use Rattle.picture.specs.History.{Waiting, is_waiting, takes, told_after, number_said, told_said}
use Rattle.picture.proofs.Monitored.{not_first, not_five}
use Rattle.picture.proofs.Answers.{unmonitored_same}
use Rattle.session.specs.declared.Settings.{Settings}
use Rattle.session.specs.declared.Session.{Session}
use Rattle.session.specs.Session.{Lined}
use Rattle.session.specs.Session.{is_set, line_of, with_picture}
use Rattle.demands.specs.Calls.{Setup, Call, line, sound, instant, pack, video_restart, audio_restart, Answer, saying, Event, calls, begun, after_call, Run, none, then}
use Rattle.demands.specs.Paper.{lines, waiting, line_said, said, accepted, Program, transcript}
use Rattle.demands.specs.Demands.{Demand2}
use Rattle.demands.specs.LeftOut as out
use Rattle.demands.specs.LeftOut.{LeftOut, kept, left, is_looked, looked, looked_at}
use Rattle.demands.proofs.Against.{as_said}
use Rattle.demands.proofs.Listed.{listed, listed_format}
use Rattle.demands.proofs.Runs.{always, empty_stays, still_empty, calls_of, card_runs}
use Rattle.demands.proofs.Demand2.{as_paper, demand_2}

-- ---- the session after a line that is not monitored is the session before it

not_in_row : (f n : ℕ) → ltb f 8 ≡ true → is_monitored f n ≡ false → monitored (row_of f) n ≡ false
unfolding is_monitored
not_in_row f n l m = sym (and_goes (ltb f 8) (monitored (row_of f) n) l) ∙ m

line_same : (s : Session) (n : ℕ) (b : List ℕ) → (picture.line_of s.programme.picture s.programme.settings.format n b).picture ≡ s.programme.picture
    → after_call s (line n b) ≡ s
unfolding after_call line_of
line_same s n b e = chosen (λ (x : Lined). x.session ≡ s) (is_set s.programme.settings) _ _ (λ _. ap (with_picture s) e) (λ _. refl)

same_session : (u : Setup) {es : List Event} {t : Session} → Run (begun u) es t → (n : ℕ) (b : List ℕ) → is_monitored u.format n ≡ false → after_call t (line n b) ≡ t
same_session u {es} {t} r n b m = go (accepted u) refl
  where
    go : (a : Bool) → accepted u ≡ a → after_call t (line n b) ≡ t
    go true a =
        let o = always u a r in
        let l = listed_format u (listed u a) in
        let e : u.format ≡ t.programme.settings.format = sym (ap (λ (x : Settings). x.format) o.settings) in
        line_same t n b
        (subst (λ (f : ℕ). (picture.line_of t.programme.picture f n b).picture ≡ t.programme.picture) e
        (unmonitored_same u.format l (lines u.format es) (waiting u.format es) t.programme.picture o.picture n b (not_in_row u.format n (lt-ltb _ _ l) m)))
    go false a = ap (λ (s : Session). after_call s (line n b)) (still_empty u a r) ∙ (empty_stays (line n b) ∙ sym (still_empty u a r))

-- so what is left of a run is a run, to the same session
left_run : (u : Setup) {es xs : List Event} {t : Session} → LeftOut u.format es xs → Run (begun u) es t → Run (begun u) xs t
left_run u out.none none = none
left_run u (kept e l) (then c r) = then c (left_run u l r)
left_run u {es} {xs} (left n b a m l) (then c r) = subst (λ (s : Session). Run (begun u) xs s) (sym (same_session u r n b m)) (left_run u l r)

-- ---- any calls, of any program that has demand 2

-- From what a run was told, leave out any lines that are not monitored: what is left is what a run of the calls that are left is told.
pub left_out : (p : Program) → Demand2 p → (u : Setup) (cs : List Call) (xs : List Event) → LeftOut u.format (transcript p u cs) xs → xs ≡ transcript p u (calls xs)
left_out p d u cs xs l =
    as_paper u (left_run u (subst (λ (es : List Event). LeftOut u.format es xs) (d u cs ∙ sym (demand_2 u cs)) l) (card_runs u cs)) ∙ sym (d u (calls xs))

-- ---- a host that asks of each line whether it is monitored

looked_more : (f : ℕ) (c : Call) (a : Answer) {es xs : List Event} → LeftOut f es xs
    → LeftOut f (record { call = c; answer = a } ∷ es) (cond (is_looked f c) (record { call = c; answer = a } ∷ xs) xs)
unfolding is_looked
looked_more f (line n b) a {es} {xs} l =
    chosen (LeftOut f (record { call = line n b; answer = a } ∷ es)) (is_monitored f n) _ _ (λ _. kept _ l) (λ m. left n b a m l)
looked_more f (sound k b) a l = kept _ l
looked_more f (instant k i) a l = kept _ l
looked_more f (pack id out) a l = kept _ l
looked_more f video_restart a l = kept _ l
looked_more f audio_restart a l = kept _ l

looked_out : (f : ℕ) (es : List Event) → LeftOut f es (looked_at f es)
unfolding looked_at
looked_out f [] = out.none
looked_out f (e ∷ es) = looked_more f e.call e.answer (looked_out f es)

looked_calls : (f : ℕ) (es : List Event) → calls (looked_at f es) ≡ looked f (calls es)
unfolding calls looked_at looked
looked_calls f [] = refl
looked_calls f (e ∷ es) = go (is_looked f e.call) (looked_calls f es)
  where
    go : (t : Bool) → calls (looked_at f es) ≡ looked f (calls es) → calls (cond t (e ∷ looked_at f es) (looked_at f es)) ≡ cond t (e.call ∷ looked f (calls es)) (looked f (calls es))
    go true h = ap (◌∷◌ e.call) h
    go false h = h

-- It is told of the calls that it makes what it would have been told of them among all.
pub skips : (p : Program) → Demand2 p → (u : Setup) (cs : List Call) → transcript p u (looked u.format cs) ≡ looked_at u.format (transcript p u cs)
skips p d u cs =
    let es : List Event = transcript p u cs in
    sym (left_out p d u cs (looked_at u.format es) (looked_out u.format es)
    ∙ ap (transcript p u) (looked_calls u.format es ∙ ap (looked u.format) (calls_of p u cs)))

-- ---- what a line that is not monitored answers is known beforehand

module _ (f : ℕ) (ls : List (List ℕ)) (w : Waiting) (n : ℕ) (b : List ℕ) (m : monitored (row_of f) n ≡ false) where
  told_open : (k : ℕ) → told_said f ls k n b ≡ Open
  unfolding told_said told_after takes
  told_open k = simp (m, and-false)

  number_0 : length b ≡ 2 * (row_of f).width → 1 ≤ n → n ≤ (row_of f).lines → number_said f ls w n b ≡ 0
  unfolding number_said line_number order_number
  number_0 e l h = simp (eq-eqb _ _ e, le-leb _ _ l, le-leb _ _ h, m, not_five (is_waiting w) _ (not_first (row_of f) n m))

module _ (p : Program) (d : Demand2 p) (u : Setup) (a : accepted u ≡ true) (cs : List Call) (n : ℕ) (b : List ℕ) (m : is_monitored u.format n ≡ false) where
  abbrev not_in : monitored (row_of u.format) n ≡ false
  not_in = not_in_row u.format n (lt-ltb _ _ (listed_format u (listed u a))) m

  -- of the format's length and raster it is accepted and tells nothing
  pub tells_nothing : length b ≡ 2 * (row_of u.format).width → 1 ≤ n → n ≤ (row_of u.format).lines → p u (transcript p u cs) (line n b) ≡ saying 0
  unfolding said line_said
  tells_nothing e l h =
      as_said p d u a cs (line n b)
      ∙ rw (number_0 u.format (lines u.format (transcript p u cs)) (waiting u.format (transcript p u cs)) n b not_in e l h, told_open u.format (lines u.format (transcript p u cs)) (waiting u.format (transcript p u cs)) n b not_in 0) refl
