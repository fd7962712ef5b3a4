-- The bytes that part a text, and its headings.
use Rattle.std.specs.Prelude.{ℕ, List, [], ◌∷◌}
use Rattle.output.specs.Quoted.{bytes_of}

abbrev pub line_feed : ℕ
line_feed = 10

abbrev pub carriage_return : ℕ
carriage_return = 13

abbrev pub comma : ℕ
comma = 44

-- CR LF
abbrev pub line_end : List ℕ
line_end = carriage_return ∷ line_feed ∷ []

unfoldable pub table_heading : List ℕ
table_heading = bytes_of "identifier,parent,share"

unfoldable pub report_heading : List ℕ
report_heading = bytes_of "identifier,bytes,start,finish,virtual,held,lag"

unfoldable pub answer_heading : List ℕ
answer_heading = bytes_of "answer,place,second,count"

unfoldable pub live_heading : List ℕ
live_heading = bytes_of "answer,place,second,count,packet"

unfoldable pub order_heading : List ℕ
order_heading = bytes_of "order"
