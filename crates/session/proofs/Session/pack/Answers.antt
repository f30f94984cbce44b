-- `Session::pack` meets its contract.
use Prim.Native.Nat.{ℕ}
use mathlib.Core.Path.{◌≡◌, refl, sym, ap, ◌∙◌}
use mathlib.Core.List.{List}
use borrow.Author.Rules.{rules}
use lib.ListN.{length}
use Rattle.std.proofs.Common.{Result, Ok, Err}
use Rattle.laws.specs.declared.Refusal.{Refusal}
use Rattle.laws.specs.Refusals.{done_of}
use Rattle.laws.proofs.Refusals.{number_positive}
use Rattle.container.specs.declared.Contents.{Contents}
use Rattle.container.specs.Writing.{write_done, write_out}
use Rattle.session.specs.declared.Session.{Session}
use Rattle.session.specs.declared.packing.Packing.{Packing}
use Rattle.session.specs.Packing.{pack_number, contents_of, packing_of, refused_with}
use Rattle.session.proofs.Calls.{set_count, pack_set, pack_refused, pack_short, pack_0, pack_out_lem}
use Rattle.session.proofs.Session.pack.Goals as goal
use Rattle.session.proofs.Session.pack.Goals.{After-write_container, In_ok-check_pack}

accepted : (c : goal.In_ok-check_pack) → pack_number c.args.self.now (length c.args.id.now) ≡ 0
accepted c = sym c.in_ok-check_pack.ensures

abbrev s : (c : goal.After-write_container) → Session
s c = c.args.self.now

abbrev id : (c : goal.After-write_container) → List ℕ
id c = c.args.id.now

abbrev out : (c : goal.After-write_container) → List ℕ
out c = c.args.out.now

contents_is : (c : goal.After-write_container) → c.make-packing.result.contents ≡ contents_of (s c) (id c)
unfolding packing_of
contents_is c = ap (λ (p : Packing). p.contents) c.make-packing.ensures

done_is : (c : goal.After-write_container) (r : Result ℕ Refusal) → c.write_container.result ≡ r → done_of r ≡ write_done (contents_of (s c) (id c)) (length (out c))
done_is c r e =
    ap done_of (sym e) ∙ c.write_container.ensures.0 ∙ ap (λ (k : Contents). write_done k (length (out c))) (contents_is c)

left_is : (c : goal.After-write_container) → c.write_container.new.out ≡ write_out (contents_of (s c) (id c)) (out c)
left_is c = c.write_container.ensures.1 ∙ ap (λ (k : Contents). write_out k (out c)) (contents_is c)

pub make-packing-requires : goal.make-packing-requires
make-packing-requires c =
    let a = c.args in
    set_count a.self.now.programme.settings (pack_set a.self.now (length a.id.now) (accepted (goal.at.make-packing-requires c).In_ok-check_pack))

pub returns-in_err-check_pack-clause-answer : goal.returns-in_err-check_pack-clause-answer
returns-in_err-check_pack-clause-answer c =
    let a = c.args in
    let why = c.in_err-check_pack.field-0.0 in
    let e = c.in_err-check_pack.ensures in
    let r : c.from_residual.result ≡ Err why = search rules in
    rw r (ap (λ (n : ℕ). refused_with n a.self.now) e ∙ (pack_refused a.self.now a.id.now a.out.now (λ z. number_positive why (e ∙ z))).0)

pub returns-in_err-check_pack-clause-left : goal.returns-in_err-check_pack-clause-left
returns-in_err-check_pack-clause-left c =
    let a = c.args in
    let e = c.in_err-check_pack.ensures in
    (pack_refused a.self.now a.id.now a.out.now (λ z. number_positive c.in_err-check_pack.field-0.0 (e ∙ z))).1

pub returns-in_err-written-clause-answer : goal.returns-in_err-written-clause-answer
returns-in_err-written-clause-answer c =
    let w = (goal.at.returns-in_err-written-clause-answer c).After-write_container in
    let why = c.in_err-written.field-0.0 in
    let r : c.from_residual-in_err-written.result ≡ Err why = search rules in
    rw r (pack_short (s w) (id w) (out w) (sym c.in_ok-check_pack.ensures) (done_of (Err why)) (done_is w (Err why) c.in_err-written.was) (number_positive why)).0

pub returns-in_err-written-clause-left : goal.returns-in_err-written-clause-left
returns-in_err-written-clause-left c =
    let w = (goal.at.returns-in_err-written-clause-left c).After-write_container in
    let why = c.in_err-written.field-0.0 in
    left_is w ∙ (pack_short (s w) (id w) (out w) (sym c.in_ok-check_pack.ensures) (done_of (Err why)) (done_is w (Err why) c.in_err-written.was) (number_positive why)).1

pub returns-clause-answer : goal.returns-clause-answer
unfolding packing_of
returns-clause-answer c =
    let w = (goal.at.returns-clause-answer c).After-write_container in
    let n = c.in_ok-written.written in
    ap (λ (p : Packing). record { number = 0; written = n; session = p.session }) c.make-packing.ensures
    ∙ pack_0 (s w) (id w) (out w) (sym c.in_ok-check_pack.ensures) (done_of (Ok n)) (done_is w (Ok n) c.in_ok-written.was) refl

pub returns-clause-left : goal.returns-clause-left
returns-clause-left c =
    let w = (goal.at.returns-clause-left c).After-write_container in
    let n = c.in_ok-written.written in
    left_is w ∙ pack_out_lem (s w) (id w) (out w) (sym c.in_ok-check_pack.ensures) (done_of (Ok n)) (done_is w (Ok n) c.in_ok-written.was)
