-- `transport::register::register` meets its contract. What is left of the bytes leads from the register to that of them all.
use mathlib.Core.Path.{◌≡◌}
use lib.ListN.{drop}
use Rattle.transport.specs.Register.{run, register_of}
use Rattle.transport.proofs.register.register.Given as goal

abbrev pub invariant-loop-byte : goal.invariant-loop-byte
invariant-loop-byte l = register_of l.bytes ≡ run l.reg (drop l.byte-index l.bytes)
