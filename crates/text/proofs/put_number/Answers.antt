-- `text::put_number` meets its contract.
use Rattle.text.specs.Spelling.{decimal_text}
use Rattle.text.proofs.put_number.Goals as goal

pub returns : goal.returns
unfolding decimal_text
returns c = c.put_digits.ensures
