-- `answers::put_decimal` meets its contract: the digits are those that std prints.
use Rattle.std.proofs.Common.{◌≡◌, ◌∙◌, sym, ap, arith, length}
use Rattle.answers.specs.Answer.{decimal_of}
use Rattle.answers.proofs.Laws.Writing.{decimal_is}
use Rattle.answers.proofs.put_decimal.Goals as goal

pub returns : goal.returns
returns c =
    let digits : c.as_bytes.result.now ≡ decimal_of c.args.x = c.as_bytes.ensures.value ∙ c.format.ensures.text ∙ sym (decimal_is c.args.x c.ranges.x.fits) in
    (rw (← digits) c.put.ensures, omega (arith, c.put.ensures.place, c.format.ensures.fits, ap length c.as_bytes.ensures.value))
