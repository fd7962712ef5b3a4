-- `lines::put_order` meets its contract: the heading, its end, and the words that there are.
-- Assumes nothing.
use Rattle.std.proofs.lemmas.List.{take_min}
use Rattle.output.specs.Quoted.{bytes_of}
use Rattle.forms.specs.Texts.{order_text}
use Rattle.forms.specs.Bytes.{order_heading}
use Rattle.output.proofs.Pages.{then}
use Rattle.lines.proofs.lent.put_order.Goals as goal

pub returns : goal.returns
unfolding order_text order_heading bytes_of
returns c =
    let args = c.args in
    let words = rw (c.min.ensures, take_min args.count args.order.now) at c.put_words.ensures in
    then _ _ _ c.put_text-used.ensures (then _ _ _ c.put_end-used.ensures words)
