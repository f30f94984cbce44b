-- `transport::write_transport` meets its contract. Of a container it knows only what the container's own laws say.
use Rattle.std.proofs.Common.{◌≡◌, Err, sym, ◌∙◌, arith, rules}
use Rattle.laws.specs.Refusals.{number_of}
use Rattle.laws.proofs.Calls.{told_refused, told_short, told_ok}
use Rattle.laws.proofs.Refusals.{number_positive}
use Rattle.container_laws.proofs.Container.{accepted_size}
use Rattle.transport.specs.Writing.{transport_bytes, write_number, write_done, write_out}
use Rattle.transport.proofs.Written.{length_transport}
use Rattle.transport.proofs.write_transport.Goals as goal

pub returns-in_err-check_container : goal.returns-in_err-check_container
unfolding write_done write_out write_number
returns-in_err-check_container c =
    let why = c.in_err-check_container.field-0.0 in
    let r : c.from_residual.result ≡ Err why = search rules in
    rw (r, ← c.in_err-check_container.ensures) (told_refused (number_of why) (transport_bytes c.args.container.now) c.args.out.now (number_positive why))

pub returns-then-out-size : goal.returns-then-out-size
unfolding write_done write_out write_number
returns-then-out-size c =
    told_short _ (transport_bytes c.args.container.now) c.args.out.now (sym c.in_ok-check_container.ensures) (rw length_transport c.if-out-size.true)

pub put_transport-requires : goal.put_transport-requires
put_transport-requires c = omega (arith, (accepted_size _ (λ k. omega (arith, c.type_inv.container k)) (sym c.in_ok-check_container.ensures)).1)

pub returns : goal.returns
unfolding write_done write_out write_number
returns c =
    let t = told_ok _ (transport_bytes c.args.container.now) c.args.out.now (sym c.in_ok-check_container.ensures) (rw length_transport c.if-out-size.false) in
    rw (← length_transport c.args.container.now) (t.0, c.put_transport.ensures ∙ t.1)
