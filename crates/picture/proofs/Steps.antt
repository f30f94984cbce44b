-- Each call answers what document 01 says over plain histories, and a picture goes on holding what they say: no word on events.
use Prim.Native.Nat.{ℕ, suc, ◌+◌, ◌*◌, ◌%◌, ◌<◌}
use mathlib.Core.Path.{◌≡◌, refl, sym, ap, ◌∙◌, subst}
use mathlib.Core.Bool.{Bool, true, false, cond, ◌&&◌, not, or-true, true≢false}
use mathlib.Core.List.{List, []}
use native.Mathlib.Omega.{arith}
use lib.Dec.{ltb, leb, eqb}
use lib.ListN.{length, length-replicate}
use borrow.Author.Tests.{ltb-true, ltb-false, eqb-true, eqb-false, eq-eqb, ne_eqb, lt-ltb}
use Rattle.laws.proofs.Tests.{both, past, chosen}
use Rattle.sampling.specs.declared.Row.{Row}
use Rattle.sampling.specs.Formats.{row_of}
use Rattle.sampling.specs.Samples.{pixels}
use Rattle.sampling.proofs.Filled.{sixty}
use Rattle.picture.specs.declared.Told.TheVariants.{Open}
use Rattle.laws.specs.declared.Video.{Video}
use Rattle.laws.specs.declared.Video.TheVariants.{Absent}
use Rattle.picture.specs.declared.Picture.{Picture}
use Rattle.picture.specs.Pictures.{Scanned}
use Rattle.picture.specs.Pictures.{Handed}
use Rattle.picture.specs.Lines.{among, interlaced, monitored, due_line, order_number, line_number, judged_number}
use Rattle.picture.specs.Pictures.{fresh_picture, empty_with, is_ready, restarted, handed_out, with_row, field_ended, taken, untouched, number_at, line_of}
use Rattle.picture.specs.History.{fields, line_tells, next_field, next_line, starts_frame, Waiting, no_frame, is_waiting, waiting_shows, takes, lines_after, waiting_after, told_after, number_said, told_said}
use Rattle.picture.proofs.Monitored.{among_yes}
use Rattle.picture.proofs.Kept.{Kept, kept_none, kept_open, told_whole, kept_whole}
use Rattle.picture.proofs.Framed.{waiting_of, Framed, no_true, framed_open, framed_whole}

-- what holds of a picture p of format f after the lines ls, with w waiting
pub record Holds (f : ℕ) (ls : List (List ℕ)) (w : Waiting) (p : Picture) : Type 0 where
  pub kept : Kept p.older p.newer p.filling p.row p.held ls
  pub framed : Framed f p.frame ls w

-- a hand-out shows what the frame that waits shows, and none waits any longer
pub record HandedRight (f : ℕ) (ls : List (List ℕ)) (w : Waiting) (h : Handed) : Type 0 where
  pub shown : h.shown ≡ waiting_shows w
  pub holds : Holds f ls no_frame h.picture

-- a line's number is 01's, and so is what it tells; what held holds of the histories with the line
pub record LineRight (f : ℕ) (ls : List (List ℕ)) (w : Waiting) (n : ℕ) (b : List ℕ) (r : Scanned) : Type 0 where
  pub number : r.number ≡ number_said f ls w n b
  pub told : r.told ≡ told_said f ls (number_said f ls w n b) n b
  pub holds : Holds f (lines_after f n b r.number ls) (waiting_after f n r.number (lines_after f n b r.number ls) w) r.picture

-- ---- no line yet
next_none : (f : ℕ) → next_field f [] ≡ 1
unfolding next_field fields
next_none f = chosen (λ (x : ℕ). x ≡ 1) (interlaced (row_of f)) _ _ (λ e. refl) (λ e. refl)

starts_none : (f : ℕ) → starts_frame f [] ≡ true
unfolding starts_frame
starts_none f = rw (next_none f) refl

pub empty_holds : (f : ℕ) (ready : Bool) (shown : Video) → Holds f [] (waiting_of ready shown) (empty_with ready shown)
empty_holds f ready shown = record {
  kept = kept_none _ _ _ (length-replicate {A = ℕ} 960 0);
  framed = record {
    field = sym (next_none f);
    first = λ e. absurd (let z : ⊥ = omega (arith, next_none f) in z);
    waits = refl;
    between = λ r. starts_none f;
  };
}

pub fresh_holds : (f : ℕ) → Holds f [] no_frame fresh_picture
unfolding fresh_picture
fresh_holds f = empty_holds f false Absent

-- ---- the line expected is monitored
module _ (f : ℕ) (ls : List (List ℕ)) where
  abbrev r : Row
  r = row_of f

  abbrev k : ℕ
  k = length ls % 16

  below : k < 16
  below = omega arith

  pub next_monitored : monitored (row_of f) (next_line f ls) ≡ true
  unfolding monitored next_line due_line next_field
  next_monitored = go (interlaced (row_of f)) (eqb (length (fields ls) % 2 + 1) 1) refl refl
    where
      go : (b c : Bool) → interlaced r ≡ b → eqb (length (fields ls) % 2 + 1) 1 ≡ c → monitored r (next_line f ls) ≡ true
      go false c e y = rw (e, among_yes r.vstart1 r.vstep 16 (r.vstart1 + r.vstep * k) k below refl) refl
      go true true e y = rw (e, y, among_yes r.vstart1 r.vstep 16 (r.vstart1 + r.vstep * k) k below refl) refl
      go true false e y =
          rw (e, y, among_yes r.vstart2 r.vstep 16 (r.vstart2 + r.vstep * k) k below refl)
          (or-true (among r.vstart1 r.vstep 16 (r.vstart2 + r.vstep * k)))

-- ---- a picture of which this holds
module _ (f : ℕ) (ls : List (List ℕ)) (w : Waiting) (p : Picture) (o : Holds f ls w p) where
  pub ready_is : is_ready p ≡ is_waiting w
  unfolding is_ready is_waiting
  ready_is = rw o.framed.waits (go p.frame.ready)
    where
      go : (b : Bool) → b ≡ is_waiting (waiting_of b p.frame.shown)
      go true = refl
      go false = refl

  pub due_is : due_line (row_of f) p.frame.field p.row ≡ next_line f ls
  unfolding next_line
  due_is = rw (o.framed.field, o.kept.place) refl

  -- while a frame waits, the line expected is the first of field 1
  pub first_due : is_waiting w ≡ true → next_line f ls ≡ (row_of f).vstart1
  unfolding next_line due_line starts_frame is_ready
  first_due e =
      let t = both (eqb (next_field f ls) 1) (eqb (length ls % 16) 0) (o.framed.between (ready_is ∙ e)) in
      rw (t.0, eqb-true (length ls % 16) 0 t.1) (omega arith)

  waits_when : (b : Bool) → p.frame.ready ≡ b → w ≡ waiting_of b p.frame.shown
  waits_when b e = o.framed.waits ∙ ap (λ (x : Bool). waiting_of x p.frame.shown) e

  pub restart_holds : Holds f [] w (restarted p)
  unfolding restarted
  restart_holds =
      subst (λ (x : Waiting). Holds f [] x (empty_with p.frame.ready p.frame.shown)) (sym o.framed.waits)
      (empty_holds f p.frame.ready p.frame.shown)

  pub hand_out_right : HandedRight f ls w (handed_out p)
  unfolding handed_out waiting_shows
  hand_out_right =
      chosen (HandedRight f ls w) p.frame.ready _ _
      (λ r. record {
        shown = sym (ap waiting_shows (waits_when true r));
        holds = record {
          kept = o.kept;
          framed = record { field = o.framed.field; first = o.framed.first; waits = refl; between = no_true refl };
        };
      })
      (λ r. record {
        shown = sym (ap waiting_shows (waits_when false r));
        holds = subst (λ (x : Waiting). Holds f ls x p) (waits_when false r) o;
      })

-- ---- a line

-- a chain of refusals that ends in 0 did not stop at its first test
unfired : (t : Bool) (k rest : ℕ) → cond t k rest ≡ 0 → 0 < k → (t ≡ false) × (rest ≡ 0)
unfired true k rest e h = absurd (let z : ⊥ = omega arith in z)
unfired false k rest e h = (refl, e)

not_there : (m t : Bool) → t ≡ false → (m && not t) ≡ false → m ≡ false
not_there true t e x = absurd (true≢false (sym (rw e refl) ∙ x))
not_there false t e x = refl

-- the field goes on
abbrev opened : Picture → List ℕ → Scanned
opened p filling = record {
  number = 0;
  told = Open;
  picture = record { older = p.older; newer = p.newer; filling = filling; row = p.row + 1; held = p.held; frame = p.frame };
}

module _ (f : ℕ) (listed : f < 8) (ls : List (List ℕ)) (w : Waiting) (p : Picture) (o : Holds f ls w p) (n : ℕ) (b : List ℕ) where
  abbrev said : ℕ
  said = number_said f ls w n b

  number_is : number_at p f n (length b) ≡ said
  unfolding judged_number number_said is_ready
  number_is =
      let s : p.row < 16 = omega (arith, o.kept.place) in
      rw (lt-ltb f 8 listed, lt-ltb p.row 16 s, due_is f ls w p o, ← ready_is f ls w p o) refl

  -- refused, or not monitored: nothing changes
  passed_over : (k : ℕ) → said ≡ k → takes f n k ≡ false → LineRight f ls w n b (untouched k p)
  unfolding lines_after waiting_after told_after told_said
  passed_over k e t = record {
    number = sym e;
    told = rw (e, t) refl;
    holds = rw t o;
  }

  refused : (said ≡ 0 → ⊥) → LineRight f ls w n b (untouched (number_at p f n (length b)) p)
  unfolding takes
  refused x = rw number_is (passed_over said refl (rw (ne_eqb said 0 x) refl))

  -- the two ways of a number 0
  module _ (z : said ≡ 0) where
    in_order : order_number (row_of f) (next_line f ls) (is_waiting w) n ≡ 0
    unfolding number_said line_number
    in_order =
        let a = past (eqb (length b) (2 * (row_of f).width)) 2 _ z (omega arith) in
        (past (leb 1 n && leb n (row_of f).lines) 3 _ a.1 (omega arith)).1

    neither : ((monitored (row_of f) n && not (eqb n (next_line f ls))) ≡ false) × ((is_waiting w && eqb n (row_of f).vstart1) ≡ false)
    unfolding order_number
    neither =
        let a = unfired (monitored (row_of f) n && not (eqb n (next_line f ls))) 4 _ in_order (omega arith) in
        (a.0, (unfired (is_waiting w && eqb n (row_of f).vstart1) 5 0 a.1 (omega arith)).0)

    skipped : eqb n (next_line f ls) ≡ false → LineRight f ls w n b (untouched 0 p)
    unfolding takes
    skipped e = passed_over 0 z (not_there _ _ e neither.0)

    -- the line that is due
    module _ (e : eqb n (next_line f ls) ≡ true) where
      abbrev px : List ℕ
      px = pixels (row_of f) b

      taken_in : takes f n 0 ≡ true
      unfolding takes
      taken_in = ap (monitored (row_of f)) (eqb-true n (next_line f ls) e) ∙ next_monitored f ls

      not_ready : p.frame.ready ≡ false
      unfolding is_ready
      not_ready = ready_is f ls w p o ∙ go (is_waiting w) refl
        where
          go : (b : Bool) → is_waiting w ≡ b → is_waiting w ≡ false
          go false x = x
          go true x =
              let first : eqb n (row_of f).vstart1 ≡ true = eq-eqb n (row_of f).vstart1 (eqb-true n (next_line f ls) e ∙ first_due f ls w p o x) in
              absurd (true≢false (sym (rw (x, first) refl) ∙ neither.1))

      took_open : p.row < 15 → LineRight f ls w n b (opened p (with_row p.filling p.row px))
      unfolding told_said told_after lines_after waiting_after line_tells
      took_open h =
          let k : (suc (length ls) % 16 ≡ 0 → ⊥) = λ x. omega (arith, o.kept.place) in
          record {
            number = sym z;
            told = rw (z, taken_in, ne_eqb _ _ k) refl;
            holds = rw taken_in (record {
              kept = kept_open _ _ _ _ _ ls o.kept px (sixty (row_of f) b) h;
              framed = framed_open f p.frame ls w o.framed px not_ready k;
            });
          }

      took_whole : (p.row < 15 → ⊥) → LineRight f ls w n b (field_ended p (with_row p.filling p.row px) (interlaced (row_of f)))
      unfolding told_said told_after lines_after waiting_after line_tells field_ended
      took_whole h =
          let k : suc (length ls) % 16 ≡ 0 = omega (arith, o.kept.place) in
          let t = told_whole _ _ _ _ _ ls o.kept px (sixty (row_of f) b) h in
          record {
            number = sym z;
            told = t ∙ rw (z, taken_in, eq-eqb _ _ k) refl;
            holds = rw taken_in (record {
              kept = kept_whole _ _ _ _ _ ls o.kept px (sixty (row_of f) b) h;
              framed = rw t (framed_whole f p.frame ls w o.framed px not_ready k);
            });
          }

      took : LineRight f ls w n b (taken p f b)
      unfolding taken
      took =
          chosen (LineRight f ls w n b) (ltb p.row 15) _ _ (λ x. took_open (ltb-true _ _ x))
          (λ x. took_whole (λ h. omega (arith, ltb-false p.row 15 x)))

  pub line_right : LineRight f ls w n b (line_of p f n b)
  unfolding line_of
  line_right =
      let d : due_line (row_of f) p.frame.field p.row ≡ next_line f ls = due_is f ls w p o in
      chosen (LineRight f ls w n b) (eqb (number_at p f n (length b)) 0) _ _
      (λ x.
      let z : said ≡ 0 = sym number_is ∙ eqb-true _ _ x in
      chosen (LineRight f ls w n b) (eqb n (due_line (row_of f) p.frame.field p.row)) _ _
      (λ y. took z (sym (ap (eqb n) d) ∙ y))
      (λ y. skipped z (sym (ap (eqb n) d) ∙ y)))
      (λ x. refused (λ z. eqb-false _ _ x (number_is ∙ z)))
