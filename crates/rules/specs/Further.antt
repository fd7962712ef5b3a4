-- Further worked runs, which tell wrong turns from the rules where P1 to P12 do not.
use Rattle.std.specs.Prelude.{List, [], ◌∷◌, ◌++◌, replicate, pos, negsuc}
use Rattle.rules.specs.Worked.{Run, Answers, Order, Report, Lags, Working, RowReport, row, packet, finish, lend, halves}

-- P1 with short packets for class 10: the least finish alone would send class 10 twice running
unfoldable pub not_eligible : Run
not_eligible =
    record {
      lent = lend halves (packet 10 10 ∷ packet 20 100 ∷ packet 10 10 ∷ finish ∷ finish ∷ finish ∷ []);
      facts = Answers 0 0 0 3 ∷ Order (0 ∷ 1 ∷ 2 ∷ 7 ∷ 7 ∷ 7 ∷ 7 ∷ []) ∷ [];
    }

-- class 10 falls behind while class 20's long packet is sent; its last packet still starts at its own finish, 2 · 16800, and
-- not at the virtual time, which is then 1737120
unfoldable pub behind : Run
behind =
    record {
      lent =
          lend halves
          (packet 10 10 ∷ packet 10 10 ∷ packet 10 10 ∷ packet 20 2048 ∷ finish ∷ finish ∷ finish ∷ finish ∷ []);
      facts =
          Answers 0 0 0 4
          ∷ Order (0 ∷ 3 ∷ 1 ∷ 2 ∷ 7 ∷ 7 ∷ 7 ∷ 7 ∷ 7 ∷ [])
          ∷ RowReport 0 (2078 ∷ 0 ∷ 0 ∷ 1745520 ∷ 0 ∷ [])
          ∷ RowReport 1 (30 ∷ 33600 ∷ 50400 ∷ 0 ∷ 0 ∷ [])
          ∷ RowReport 2 (2048 ∷ 8400 ∷ 3449040 ∷ 0 ∷ 0 ∷ [])
          ∷ [];
    }

-- an inner row, class 2, falls behind while class 3's long packet is sent. Its next packets start at its own finish all the same, the last
-- at 33600, though the line's virtual time is then 100800. Once it is empty it is woken: now its start is the line's virtual time, 109200,
-- and its lag, like that of class 4 below it, is counted from that event on. Its own virtual time rises to class 4's start at every packet
-- but the first
unfoldable pub inner : Run
inner =
    record {
      lent =
          lend (row 1 0 0 ∷ row 2 1 420 ∷ row 3 1 420 ∷ row 4 2 280 ∷ [])
          (packet 4 10 ∷ packet 4 10 ∷ packet 4 10 ∷ packet 3 100 ∷ finish ∷ finish ∷ finish ∷ finish
          ∷ packet 4 10 ∷ packet 4 10 ∷ finish ∷ packet 4 10 ∷ []);
      facts =
          Answers 0 0 0 6
          ∷ Order (0 ∷ 3 ∷ 1 ∷ 2 ∷ 8 ∷ 9 ∷ replicate 7 7)
          ∷ RowReport 0 (140 ∷ 0 ∷ 0 ∷ 134400 ∷ 2 ∷ [])
          ∷ RowReport 1 (40 ∷ 126000 ∷ 142800 ∷ 109200 ∷ 2 ∷ [])
          ∷ RowReport 2 (100 ∷ 8400 ∷ 176400 ∷ 0 ∷ 0 ∷ [])
          ∷ RowReport 3 (40 ∷ 100800 ∷ 126000 ∷ 0 ∷ 2 ∷ [])
          ∷ Lags (pos 0 ∷ negsuc 4199 ∷ pos 0 ∷ negsuc 5599 ∷ pos 7 ∷ [])
          ∷ Working (replicate 12 0 ++ 7 ∷ [])
          ∷ [];
    }

-- equal finishes of classes 20 and 30, where class 20 has a further packet behind its head: its head, packet 1, is older than packet 2, and
-- goes first, whatever stands behind it
unfoldable pub head_counts : Run
head_counts =
    record {
      lent =
          lend (row 1 0 0 ∷ row 10 1 280 ∷ row 20 1 280 ∷ row 30 1 280 ∷ [])
          (packet 10 100 ∷ packet 20 100 ∷ packet 30 100 ∷ packet 20 100 ∷ finish ∷ finish ∷ finish ∷ finish ∷ []);
      facts =
          Answers 0 0 0 4
          ∷ Order (0 ∷ 1 ∷ 2 ∷ 3 ∷ replicate 5 7)
          ∷ RowReport 2 (200 ∷ 336000 ∷ 588000 ∷ 0 ∷ 0 ∷ [])
          ∷ RowReport 3 (100 ∷ 84000 ∷ 336000 ∷ 0 ∷ 0 ∷ [])
          ∷ [];
    }

-- three equal finishes below and at the root, two of them against the order of the rows. Classes 2 and 3, whose packets are two levels below
-- them, have finish 504000 with packets 3 and 4: 3 goes first, though class 3 holds packet 2, which is older than both. Then classes 6 and 7
-- have finish 504000 with packets 8 and 6: class 4 takes 6. With that class 2 has finish 672000, as class 3 has with packet 2: 2 goes first
unfoldable pub waited : Run
waited =
    record {
      lent =
          lend
          (row 1 0 0 ∷ row 2 1 420 ∷ row 3 1 420 ∷ row 4 2 840 ∷ row 5 3 840 ∷ row 6 4 420 ∷ row 7 4 420 ∷ row 8 5 420 ∷ row 9 5 420 ∷ [])
          (packet 7 200 ∷ packet 9 100 ∷ packet 9 100 ∷ packet 6 100 ∷ packet 8 100 ∷ finish
          ∷ packet 7 100 ∷ packet 9 200 ∷ packet 6 100 ∷ replicate 7 finish);
      facts =
          Answers 0 0 0 8
          ∷ Order (0 ∷ 1 ∷ 3 ∷ 4 ∷ 2 ∷ 6 ∷ 8 ∷ 7 ∷ replicate 9 7)
          ∷ RowReport 0 (1000 ∷ 0 ∷ 0 ∷ 924000 ∷ 0 ∷ [])
          ∷ RowReport 1 (500 ∷ 672000 ∷ 840000 ∷ 420000 ∷ 0 ∷ [])
          ∷ RowReport 2 (500 ∷ 672000 ∷ 1008000 ∷ 420000 ∷ 0 ∷ [])
          ∷ RowReport 3 (500 ∷ 336000 ∷ 420000 ∷ 504000 ∷ 0 ∷ [])
          ∷ RowReport 4 (500 ∷ 252000 ∷ 420000 ∷ 504000 ∷ 0 ∷ [])
          ∷ [];
    }

-- the shortest and the longest packet that there can be, and two between. 9000 bytes cost class 20, with one part of 840, more ticks than 32 bits
-- hold, and class 30 half as many: class 30's packet goes first, and class 20's next one starts far from the line's virtual time
unfoldable pub lengths : Run
lengths =
    record {
      lent =
          lend (row 1 0 0 ∷ row 10 1 420 ∷ row 20 1 1 ∷ row 30 1 2 ∷ [])
          (packet 10 1 ∷ packet 20 9000 ∷ packet 30 9000 ∷ packet 10 2048 ∷ packet 20 2049 ∷ finish ∷ finish ∷ finish ∷ finish ∷ []);
      facts =
          Answers 0 0 0 5
          ∷ Order (0 ∷ 2 ∷ 3 ∷ 1 ∷ 4 ∷ replicate 5 7)
          ∷ RowReport 0 (20049 ∷ 0 ∷ 0 ∷ 6352122000 ∷ 1 ∷ [])
          ∷ RowReport 1 (2049 ∷ 1680 ∷ 3442320 ∷ 0 ∷ 0 ∷ [])
          ∷ RowReport 2 (9000 ∷ 6350400840 ∷ 7796175240 ∷ 0 ∷ 1 ∷ [])
          ∷ RowReport 3 (9000 ∷ 840 ∷ 3175200840 ∷ 0 ∷ 0 ∷ [])
          ∷ Lags (pos 0 ∷ pos 0 ∷ negsuc 7539950 ∷ pos 0 ∷ pos 7 ∷ [])
          ∷ [];
    }

-- the rounding decides. 100 bytes cost class 10 two thirds of a tick less than the 163334 that it is charged, and class 20 a third less than its
-- 326667. So class 10's third packet, behind two of its own, starts a tick after class 20's second, behind one, and the virtual time rises to
-- class 20's start alone. Not rounded, both would start there, and class 10's packet would finish first
unfoldable pub rounding_decides : Run
rounding_decides =
    record {
      lent =
          lend (row 1 0 0 ∷ row 10 1 432 ∷ row 20 1 216 ∷ row 30 1 192 ∷ [])
          (packet 30 100 ∷ packet 10 100 ∷ packet 20 100 ∷ packet 10 100 ∷ packet 10 100 ∷ packet 20 100 ∷ replicate 6 finish);
      facts =
          Answers 0 0 0 6
          ∷ Order (0 ∷ 1 ∷ 2 ∷ 3 ∷ 5 ∷ 4 ∷ replicate 7 7)
          ∷ RowReport 0 (600 ∷ 0 ∷ 0 ∷ 578667 ∷ 0 ∷ [])
          ∷ RowReport 1 (300 ∷ 410668 ∷ 574002 ∷ 0 ∷ 0 ∷ [])
          ∷ RowReport 2 (200 ∷ 410667 ∷ 737334 ∷ 0 ∷ 0 ∷ [])
          ∷ RowReport 3 (100 ∷ 0 ∷ 367500 ∷ 0 ∷ 0 ∷ [])
          ∷ [];
    }

-- the rounding adds up. With nine tenths of the line, 10 bytes cost class 10 two thirds of a tick less than the 9334 that it is charged; after
-- nine packets that makes 6 ticks, and its tenth starts at 84006. The virtual time rises to 84000, where class 20's second packet starts, which
-- goes first. Rounded once over all nine, class 10's would start there too, and finish first
unfoldable pub rounding_adds_up : Run
rounding_adds_up =
    record {
      lent =
          lend (row 1 0 0 ∷ row 10 1 756 ∷ row 20 1 84 ∷ [])
          (packet 10 10 ∷ packet 20 9 ∷ packet 20 9 ∷ replicate 9 (packet 10 10) ++ replicate 12 finish);
      facts =
          Answers 0 0 0 12
          ∷ Order (0 ∷ 1 ∷ 3 ∷ 4 ∷ 5 ∷ 6 ∷ 7 ∷ 8 ∷ 9 ∷ 10 ∷ 2 ∷ 11 ∷ replicate 13 7)
          ∷ RowReport 0 (118 ∷ 0 ∷ 0 ∷ 99960 ∷ 0 ∷ [])
          ∷ RowReport 1 (100 ∷ 84006 ∷ 93340 ∷ 0 ∷ 0 ∷ [])
          ∷ RowReport 2 (18 ∷ 84000 ∷ 159600 ∷ 0 ∷ 0 ∷ [])
          ∷ [];
    }

-- the largest identifiers: an inner row's, and below it a sending class's, whose packet and parent are found by them
unfoldable pub largest_identifiers : Run
largest_identifiers =
    record {
      lent =
          lend (row 1 0 0 ∷ row 65535 1 420 ∷ row 65534 65535 840 ∷ row 10 1 420 ∷ [])
          (packet 65534 100 ∷ packet 10 100 ∷ finish ∷ finish ∷ []);
      facts =
          Answers 0 0 0 2
          ∷ Order (0 ∷ 1 ∷ 7 ∷ 7 ∷ 7 ∷ [])
          ∷ RowReport 0 (200 ∷ 0 ∷ 0 ∷ 168000 ∷ 0 ∷ [])
          ∷ RowReport 1 (100 ∷ 0 ∷ 168000 ∷ 84000 ∷ 0 ∷ [])
          ∷ RowReport 2 (100 ∷ 0 ∷ 84000 ∷ 0 ∷ 0 ∷ [])
          ∷ RowReport 3 (100 ∷ 84000 ∷ 252000 ∷ 0 ∷ 0 ∷ [])
          ∷ [];
    }

-- rows 1 and 2 would be one on the air, since 65546 is 10 in its low 16 bits
unfoldable pub one_on_air : Run
one_on_air =
    record {
      lent = lend (row 1 0 0 ∷ row 10 1 420 ∷ row 65546 1 420 ∷ []) (packet 10 100 ∷ finish ∷ []);
      facts = Answers 15 2 0 0 ∷ Order (replicate 3 7) ∷ Report (replicate 16 7) ∷ Lags (replicate 4 (pos 7)) ∷ Working (replicate 3 7) ∷ [];
    }

-- the root's identifier goes on the air like any other, and is looked at before its parent and share
unfoldable pub root_on_air : Run
root_on_air = record { lent = lend (row 65536 3 5 ∷ row 10 65536 420 ∷ []) []; facts = Answers 15 0 0 0 ∷ [] }

-- a packet for 65546 is not for class 10, whose low 16 bits it has
unfoldable pub class_on_air : Run
class_on_air = record { lent = lend halves (packet 10 100 ∷ packet 65546 100 ∷ []); facts = Answers 11 1 0 0 ∷ [] }

-- a refusal after events that are none: every lent word stays
unfoldable pub untouched : Run
untouched =
    record {
      lent = lend halves (packet 10 100 ∷ finish ∷ finish ∷ []);
      facts =
          Answers 14 2 0 0
          ∷ Order (replicate 4 7)
          ∷ Report (replicate 16 7)
          ∷ Lags (replicate 4 (pos 7))
          ∷ Working (replicate 4 7)
          ∷ [];
    }

unfoldable pub runs : List Run
runs =
    not_eligible ∷ behind ∷ inner ∷ head_counts ∷ waited ∷ lengths ∷ rounding_decides ∷ rounding_adds_up ∷ largest_identifiers ∷ one_on_air ∷ root_on_air ∷ class_on_air
    ∷ untouched ∷ []
