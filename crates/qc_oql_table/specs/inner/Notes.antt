-- What is noted of the rules of the table of oql.grammar, made by tools/table.
use Rattle.std.specs.Prelude.{true, false, [], ◌∷◌}
use Rattle.qc_grammar.specs.inner.Certificate.{Notes}

unfoldable pub notes : Notes
notes =
    -- query
    record {
      places = 0 ∷ [];
      follow = 0 ∷ [];
      seed = 0;
      rank = 14;
      weight = 17;
      solid = true;
    } ∷
    -- defines
    record {
      places = 10 ∷ 28 ∷ [];
      follow = 1 ∷ 4 ∷ 5 ∷ 13 ∷ 16 ∷ 17 ∷ 19 ∷ 20 ∷ 21 ∷ 22 ∷ 23 ∷ 24 ∷ 25 ∷ 26 ∷ 29 ∷
          35 ∷ 36 ∷ 37 ∷ 38 ∷ 39 ∷ 40 ∷ 41 ∷ 42 ∷ 43 ∷ 44 ∷ 45 ∷ 46 ∷ 47 ∷ 48 ∷ 49 ∷ 50
          ∷ 51 ∷ 52 ∷ 59 ∷ [];
      seed = 1;
      rank = 1;
      weight = 1;
      solid = false;
    } ∷
    -- end
    record {
      places = 30 ∷ 34 ∷ [];
      follow = 0 ∷ [];
      seed = 0;
      rank = 1;
      weight = 1;
      solid = false;
    } ∷
    -- expr
    record {
      places = 36 ∷ 44 ∷ [];
      follow = 0 ∷ 53 ∷ 57 ∷ [];
      seed = 1;
      rank = 13;
      weight = 14;
      solid = true;
    } ∷
    -- selection
    record {
      places = 48 ∷ 58 ∷ [];
      follow = 0 ∷ 53 ∷ 57 ∷ [];
      seed = 0;
      rank = 15;
      weight = 13;
      solid = true;
    } ∷
    -- sources
    record {
      places = 66 ∷ [];
      follow = 0 ∷ 53 ∷ 57 ∷ [];
      seed = 0;
      rank = 14;
      weight = 1;
      solid = true;
    } ∷
    -- bindings
    record {
      places = 82 ∷ 92 ∷ [];
      follow = 0 ∷ 7 ∷ 8 ∷ 53 ∷ 57 ∷ [];
      seed = 1;
      rank = 1;
      weight = 1;
      solid = false;
    } ∷
    -- binding
    record {
      places = 94 ∷ [];
      follow = 0 ∷ 7 ∷ 8 ∷ 53 ∷ 54 ∷ 56 ∷ 57 ∷ [];
      seed = 0;
      rank = 13;
      weight = 1;
      solid = true;
    } ∷
    -- filter
    record {
      places = 104 ∷ 114 ∷ [];
      follow = 0 ∷ 8 ∷ 53 ∷ 57 ∷ [];
      seed = 1;
      rank = 1;
      weight = 2;
      solid = false;
    } ∷
    -- order
    record {
      places = 118 ∷ 134 ∷ [];
      follow = 0 ∷ 53 ∷ 57 ∷ [];
      seed = 1;
      rank = 1;
      weight = 2;
      solid = false;
    } ∷
    -- keys
    record {
      places = 138 ∷ 146 ∷ [];
      follow = 0 ∷ 53 ∷ 57 ∷ [];
      seed = 1;
      rank = 1;
      weight = 1;
      solid = false;
    } ∷
    -- key
    record {
      places = 148 ∷ [];
      follow = 0 ∷ 53 ∷ 54 ∷ 57 ∷ [];
      seed = 0;
      rank = 13;
      weight = 14;
      solid = true;
    } ∷
    -- direction
    record {
      places = 154 ∷ 160 ∷ 166 ∷ [];
      follow = 0 ∷ 53 ∷ 54 ∷ 57 ∷ [];
      seed = 0;
      rank = 1;
      weight = 2;
      solid = false;
    } ∷
    -- q
    record {
      places = 170 ∷ 174 ∷ [];
      follow = 0 ∷ 6 ∷ 7 ∷ 8 ∷ 11 ∷ 12 ∷ 14 ∷ 15 ∷ 53 ∷ 54 ∷ 56 ∷ 57 ∷ [];
      seed = 1;
      rank = 12;
      weight = 13;
      solid = true;
    } ∷
    -- q_but_distinct
    record {
      places = 178 ∷ 182 ∷ [];
      follow = 6 ∷ [];
      seed = 1;
      rank = 11;
      weight = 12;
      solid = true;
    } ∷
    -- q_head
    record {
      places = 186 ∷ 204 ∷ 220 ∷ [];
      follow = 0 ∷ 6 ∷ 7 ∷ 8 ∷ 11 ∷ 12 ∷ 14 ∷ 15 ∷ 53 ∷ 54 ∷ 56 ∷ 57 ∷ [];
      seed = 0;
      rank = 13;
      weight = 1;
      solid = true;
    } ∷
    -- exists_rest
    record {
      places = 228 ∷ 238 ∷ [];
      follow = 0 ∷ 6 ∷ 7 ∷ 8 ∷ 11 ∷ 12 ∷ 14 ∷ 15 ∷ 53 ∷ 54 ∷ 56 ∷ 57 ∷ [];
      seed = 0;
      rank = 14;
      weight = 2;
      solid = true;
    } ∷
    -- or_but_exists
    record {
      places = 262 ∷ [];
      follow = 0 ∷ 6 ∷ 7 ∷ 8 ∷ 11 ∷ 12 ∷ 14 ∷ 15 ∷ 53 ∷ 54 ∷ 56 ∷ 57 ∷ [];
      seed = 0;
      rank = 11;
      weight = 12;
      solid = true;
    } ∷
    -- and_but_exists
    record {
      places = 268 ∷ [];
      follow = 0 ∷ 6 ∷ 7 ∷ 8 ∷ 11 ∷ 12 ∷ 14 ∷ 15 ∷ 27 ∷ 53 ∷ 54 ∷ 56 ∷ 57 ∷ [];
      seed = 0;
      rank = 10;
      weight = 11;
      solid = true;
    } ∷
    -- not_but_exists
    record {
      places = 274 ∷ 284 ∷ [];
      follow = 0 ∷ 6 ∷ 7 ∷ 8 ∷ 11 ∷ 12 ∷ 14 ∷ 15 ∷ 27 ∷ 28 ∷ 53 ∷ 54 ∷ 56 ∷ 57 ∷ [];
      seed = 1;
      rank = 9;
      weight = 10;
      solid = true;
    } ∷
    -- rel_but_exists
    record {
      places = 288 ∷ [];
      follow = 0 ∷ 6 ∷ 7 ∷ 8 ∷ 11 ∷ 12 ∷ 14 ∷ 15 ∷ 27 ∷ 28 ∷ 53 ∷ 54 ∷ 56 ∷ 57 ∷ [];
      seed = 0;
      rank = 8;
      weight = 9;
      solid = true;
    } ∷
    -- sets_but_exists
    record {
      places = 294 ∷ [];
      follow = 0 ∷ 6 ∷ 7 ∷ 8 ∷ 10 ∷ 11 ∷ 12 ∷ 14 ∷ 15 ∷ 27 ∷ 28 ∷ 30 ∷ 53 ∷ 54 ∷ 56 ∷
          57 ∷ 62 ∷ 63 ∷ 64 ∷ 65 ∷ 66 ∷ 67 ∷ [];
      seed = 0;
      rank = 7;
      weight = 8;
      solid = true;
    } ∷
    -- sum_but_exists
    record {
      places = 300 ∷ [];
      follow = 0 ∷ 6 ∷ 7 ∷ 8 ∷ 10 ∷ 11 ∷ 12 ∷ 14 ∷ 15 ∷ 27 ∷ 28 ∷ 30 ∷ 31 ∷ 32 ∷ 33 ∷
          53 ∷ 54 ∷ 56 ∷ 57 ∷ 62 ∷ 63 ∷ 64 ∷ 65 ∷ 66 ∷ 67 ∷ [];
      seed = 0;
      rank = 6;
      weight = 7;
      solid = true;
    } ∷
    -- product_but_exists
    record {
      places = 306 ∷ [];
      follow = 0 ∷ 6 ∷ 7 ∷ 8 ∷ 10 ∷ 11 ∷ 12 ∷ 14 ∷ 15 ∷ 27 ∷ 28 ∷ 30 ∷ 31 ∷ 32 ∷ 33 ∷
          53 ∷ 54 ∷ 56 ∷ 57 ∷ 58 ∷ 59 ∷ 62 ∷ 63 ∷ 64 ∷ 65 ∷ 66 ∷ 67 ∷ 68 ∷ [];
      seed = 0;
      rank = 5;
      weight = 6;
      solid = true;
    } ∷
    -- neg_but_exists
    record {
      places = 312 ∷ 322 ∷ [];
      follow = 0 ∷ 6 ∷ 7 ∷ 8 ∷ 10 ∷ 11 ∷ 12 ∷ 14 ∷ 15 ∷ 27 ∷ 28 ∷ 30 ∷ 31 ∷ 32 ∷ 33 ∷
          34 ∷ 53 ∷ 54 ∷ 56 ∷ 57 ∷ 58 ∷ 59 ∷ 60 ∷ 61 ∷ 62 ∷ 63 ∷ 64 ∷ 65 ∷ 66 ∷ 67 ∷ 68
          ∷ [];
      seed = 1;
      rank = 4;
      weight = 5;
      solid = true;
    } ∷
    -- path_but_exists
    record {
      places = 326 ∷ [];
      follow = 0 ∷ 6 ∷ 7 ∷ 8 ∷ 10 ∷ 11 ∷ 12 ∷ 14 ∷ 15 ∷ 27 ∷ 28 ∷ 30 ∷ 31 ∷ 32 ∷ 33 ∷
          34 ∷ 53 ∷ 54 ∷ 56 ∷ 57 ∷ 58 ∷ 59 ∷ 60 ∷ 61 ∷ 62 ∷ 63 ∷ 64 ∷ 65 ∷ 66 ∷ 67 ∷ 68
          ∷ [];
      seed = 0;
      rank = 3;
      weight = 4;
      solid = true;
    } ∷
    -- or_but_both
    record {
      places = 332 ∷ [];
      follow = 6 ∷ [];
      seed = 0;
      rank = 10;
      weight = 11;
      solid = true;
    } ∷
    -- and_but_both
    record {
      places = 338 ∷ [];
      follow = 0 ∷ 6 ∷ 7 ∷ 8 ∷ 11 ∷ 12 ∷ 14 ∷ 15 ∷ 27 ∷ 53 ∷ 54 ∷ 56 ∷ 57 ∷ [];
      seed = 0;
      rank = 9;
      weight = 10;
      solid = true;
    } ∷
    -- not_but_both
    record {
      places = 344 ∷ 354 ∷ [];
      follow = 0 ∷ 6 ∷ 7 ∷ 8 ∷ 11 ∷ 12 ∷ 14 ∷ 15 ∷ 27 ∷ 28 ∷ 53 ∷ 54 ∷ 56 ∷ 57 ∷ [];
      seed = 1;
      rank = 8;
      weight = 9;
      solid = true;
    } ∷
    -- rel_but_both
    record {
      places = 358 ∷ [];
      follow = 0 ∷ 6 ∷ 7 ∷ 8 ∷ 11 ∷ 12 ∷ 14 ∷ 15 ∷ 27 ∷ 28 ∷ 53 ∷ 54 ∷ 56 ∷ 57 ∷ [];
      seed = 0;
      rank = 7;
      weight = 8;
      solid = true;
    } ∷
    -- sets_but_both
    record {
      places = 364 ∷ [];
      follow = 0 ∷ 6 ∷ 7 ∷ 8 ∷ 10 ∷ 11 ∷ 12 ∷ 14 ∷ 15 ∷ 27 ∷ 28 ∷ 30 ∷ 53 ∷ 54 ∷ 56 ∷
          57 ∷ 62 ∷ 63 ∷ 64 ∷ 65 ∷ 66 ∷ 67 ∷ [];
      seed = 0;
      rank = 6;
      weight = 7;
      solid = true;
    } ∷
    -- sum_but_both
    record {
      places = 370 ∷ [];
      follow = 0 ∷ 6 ∷ 7 ∷ 8 ∷ 10 ∷ 11 ∷ 12 ∷ 14 ∷ 15 ∷ 27 ∷ 28 ∷ 30 ∷ 31 ∷ 32 ∷ 33 ∷
          53 ∷ 54 ∷ 56 ∷ 57 ∷ 62 ∷ 63 ∷ 64 ∷ 65 ∷ 66 ∷ 67 ∷ [];
      seed = 0;
      rank = 5;
      weight = 6;
      solid = true;
    } ∷
    -- product_but_both
    record {
      places = 376 ∷ [];
      follow = 0 ∷ 6 ∷ 7 ∷ 8 ∷ 10 ∷ 11 ∷ 12 ∷ 14 ∷ 15 ∷ 27 ∷ 28 ∷ 30 ∷ 31 ∷ 32 ∷ 33 ∷
          53 ∷ 54 ∷ 56 ∷ 57 ∷ 58 ∷ 59 ∷ 62 ∷ 63 ∷ 64 ∷ 65 ∷ 66 ∷ 67 ∷ 68 ∷ [];
      seed = 0;
      rank = 4;
      weight = 5;
      solid = true;
    } ∷
    -- neg_but_both
    record {
      places = 382 ∷ 392 ∷ [];
      follow = 0 ∷ 6 ∷ 7 ∷ 8 ∷ 10 ∷ 11 ∷ 12 ∷ 14 ∷ 15 ∷ 27 ∷ 28 ∷ 30 ∷ 31 ∷ 32 ∷ 33 ∷
          34 ∷ 53 ∷ 54 ∷ 56 ∷ 57 ∷ 58 ∷ 59 ∷ 60 ∷ 61 ∷ 62 ∷ 63 ∷ 64 ∷ 65 ∷ 66 ∷ 67 ∷ 68
          ∷ [];
      seed = 1;
      rank = 3;
      weight = 4;
      solid = true;
    } ∷
    -- path_but_both
    record {
      places = 396 ∷ [];
      follow = 0 ∷ 6 ∷ 7 ∷ 8 ∷ 10 ∷ 11 ∷ 12 ∷ 14 ∷ 15 ∷ 27 ∷ 28 ∷ 30 ∷ 31 ∷ 32 ∷ 33 ∷
          34 ∷ 53 ∷ 54 ∷ 56 ∷ 57 ∷ 58 ∷ 59 ∷ 60 ∷ 61 ∷ 62 ∷ 63 ∷ 64 ∷ 65 ∷ 66 ∷ 67 ∷ 68
          ∷ [];
      seed = 0;
      rank = 2;
      weight = 3;
      solid = true;
    } ∷
    -- and
    record {
      places = 402 ∷ [];
      follow = 0 ∷ 6 ∷ 7 ∷ 8 ∷ 11 ∷ 12 ∷ 14 ∷ 15 ∷ 27 ∷ 53 ∷ 54 ∷ 56 ∷ 57 ∷ [];
      seed = 0;
      rank = 11;
      weight = 12;
      solid = true;
    } ∷
    -- not
    record {
      places = 408 ∷ 418 ∷ [];
      follow = 0 ∷ 6 ∷ 7 ∷ 8 ∷ 11 ∷ 12 ∷ 14 ∷ 15 ∷ 27 ∷ 28 ∷ 53 ∷ 54 ∷ 56 ∷ 57 ∷ [];
      seed = 1;
      rank = 10;
      weight = 11;
      solid = true;
    } ∷
    -- rel
    record {
      places = 422 ∷ [];
      follow = 0 ∷ 6 ∷ 7 ∷ 8 ∷ 11 ∷ 12 ∷ 14 ∷ 15 ∷ 27 ∷ 28 ∷ 53 ∷ 54 ∷ 56 ∷ 57 ∷ [];
      seed = 0;
      rank = 9;
      weight = 10;
      solid = true;
    } ∷
    -- sets
    record {
      places = 428 ∷ [];
      follow = 0 ∷ 6 ∷ 7 ∷ 8 ∷ 10 ∷ 11 ∷ 12 ∷ 14 ∷ 15 ∷ 27 ∷ 28 ∷ 30 ∷ 53 ∷ 54 ∷ 56 ∷
          57 ∷ 62 ∷ 63 ∷ 64 ∷ 65 ∷ 66 ∷ 67 ∷ [];
      seed = 0;
      rank = 8;
      weight = 9;
      solid = true;
    } ∷
    -- sum
    record {
      places = 434 ∷ [];
      follow = 0 ∷ 6 ∷ 7 ∷ 8 ∷ 10 ∷ 11 ∷ 12 ∷ 14 ∷ 15 ∷ 27 ∷ 28 ∷ 30 ∷ 31 ∷ 32 ∷ 33 ∷
          53 ∷ 54 ∷ 56 ∷ 57 ∷ 62 ∷ 63 ∷ 64 ∷ 65 ∷ 66 ∷ 67 ∷ [];
      seed = 0;
      rank = 7;
      weight = 8;
      solid = true;
    } ∷
    -- product
    record {
      places = 440 ∷ [];
      follow = 0 ∷ 6 ∷ 7 ∷ 8 ∷ 10 ∷ 11 ∷ 12 ∷ 14 ∷ 15 ∷ 27 ∷ 28 ∷ 30 ∷ 31 ∷ 32 ∷ 33 ∷
          53 ∷ 54 ∷ 56 ∷ 57 ∷ 58 ∷ 59 ∷ 62 ∷ 63 ∷ 64 ∷ 65 ∷ 66 ∷ 67 ∷ 68 ∷ [];
      seed = 0;
      rank = 6;
      weight = 7;
      solid = true;
    } ∷
    -- neg
    record {
      places = 446 ∷ 456 ∷ [];
      follow = 0 ∷ 6 ∷ 7 ∷ 8 ∷ 10 ∷ 11 ∷ 12 ∷ 14 ∷ 15 ∷ 27 ∷ 28 ∷ 30 ∷ 31 ∷ 32 ∷ 33 ∷
          34 ∷ 53 ∷ 54 ∷ 56 ∷ 57 ∷ 58 ∷ 59 ∷ 60 ∷ 61 ∷ 62 ∷ 63 ∷ 64 ∷ 65 ∷ 66 ∷ 67 ∷ 68
          ∷ [];
      seed = 1;
      rank = 5;
      weight = 6;
      solid = true;
    } ∷
    -- path
    record {
      places = 460 ∷ [];
      follow = 0 ∷ 6 ∷ 7 ∷ 8 ∷ 10 ∷ 11 ∷ 12 ∷ 14 ∷ 15 ∷ 27 ∷ 28 ∷ 30 ∷ 31 ∷ 32 ∷ 33 ∷
          34 ∷ 53 ∷ 54 ∷ 56 ∷ 57 ∷ 58 ∷ 59 ∷ 60 ∷ 61 ∷ 62 ∷ 63 ∷ 64 ∷ 65 ∷ 66 ∷ 67 ∷ 68
          ∷ [];
      seed = 0;
      rank = 4;
      weight = 5;
      solid = true;
    } ∷
    -- or_tail
    record {
      places = 466 ∷ 478 ∷ [];
      follow = 0 ∷ 6 ∷ 7 ∷ 8 ∷ 11 ∷ 12 ∷ 14 ∷ 15 ∷ 53 ∷ 54 ∷ 56 ∷ 57 ∷ [];
      seed = 1;
      rank = 1;
      weight = 1;
      solid = false;
    } ∷
    -- and_tail
    record {
      places = 480 ∷ 492 ∷ [];
      follow = 0 ∷ 6 ∷ 7 ∷ 8 ∷ 11 ∷ 12 ∷ 14 ∷ 15 ∷ 27 ∷ 53 ∷ 54 ∷ 56 ∷ 57 ∷ [];
      seed = 1;
      rank = 1;
      weight = 1;
      solid = false;
    } ∷
    -- rel_tail
    record {
      places = 494 ∷ 504 ∷ 514 ∷ [];
      follow = 0 ∷ 6 ∷ 7 ∷ 8 ∷ 11 ∷ 12 ∷ 14 ∷ 15 ∷ 27 ∷ 28 ∷ 53 ∷ 54 ∷ 56 ∷ 57 ∷ [];
      seed = 1;
      rank = 1;
      weight = 2;
      solid = false;
    } ∷
    -- sets_tail
    record {
      places = 516 ∷ 528 ∷ [];
      follow = 0 ∷ 6 ∷ 7 ∷ 8 ∷ 10 ∷ 11 ∷ 12 ∷ 14 ∷ 15 ∷ 27 ∷ 28 ∷ 30 ∷ 53 ∷ 54 ∷ 56 ∷
          57 ∷ 62 ∷ 63 ∷ 64 ∷ 65 ∷ 66 ∷ 67 ∷ [];
      seed = 1;
      rank = 1;
      weight = 2;
      solid = false;
    } ∷
    -- sum_tail
    record {
      places = 530 ∷ 542 ∷ [];
      follow = 0 ∷ 6 ∷ 7 ∷ 8 ∷ 10 ∷ 11 ∷ 12 ∷ 14 ∷ 15 ∷ 27 ∷ 28 ∷ 30 ∷ 31 ∷ 32 ∷ 33 ∷
          53 ∷ 54 ∷ 56 ∷ 57 ∷ 62 ∷ 63 ∷ 64 ∷ 65 ∷ 66 ∷ 67 ∷ [];
      seed = 1;
      rank = 1;
      weight = 2;
      solid = false;
    } ∷
    -- product_tail
    record {
      places = 544 ∷ 556 ∷ 568 ∷ [];
      follow = 0 ∷ 6 ∷ 7 ∷ 8 ∷ 10 ∷ 11 ∷ 12 ∷ 14 ∷ 15 ∷ 27 ∷ 28 ∷ 30 ∷ 31 ∷ 32 ∷ 33 ∷
          53 ∷ 54 ∷ 56 ∷ 57 ∷ 58 ∷ 59 ∷ 62 ∷ 63 ∷ 64 ∷ 65 ∷ 66 ∷ 67 ∷ 68 ∷ [];
      seed = 2;
      rank = 1;
      weight = 2;
      solid = false;
    } ∷
    -- divisor
    record {
      places = 570 ∷ 578 ∷ [];
      follow = 0 ∷ 6 ∷ 7 ∷ 8 ∷ 10 ∷ 11 ∷ 12 ∷ 14 ∷ 15 ∷ 27 ∷ 28 ∷ 30 ∷ 31 ∷ 32 ∷ 33 ∷
          34 ∷ 53 ∷ 54 ∷ 56 ∷ 57 ∷ 58 ∷ 59 ∷ 60 ∷ 61 ∷ 62 ∷ 63 ∷ 64 ∷ 65 ∷ 66 ∷ 67 ∷ 68
          ∷ [];
      seed = 0;
      rank = 1;
      weight = 1;
      solid = true;
    } ∷
    -- path_tail
    record {
      places = 584 ∷ 594 ∷ [];
      follow = 0 ∷ 6 ∷ 7 ∷ 8 ∷ 10 ∷ 11 ∷ 12 ∷ 14 ∷ 15 ∷ 27 ∷ 28 ∷ 30 ∷ 31 ∷ 32 ∷ 33 ∷
          34 ∷ 53 ∷ 54 ∷ 56 ∷ 57 ∷ 58 ∷ 59 ∷ 60 ∷ 61 ∷ 62 ∷ 63 ∷ 64 ∷ 65 ∷ 66 ∷ 67 ∷ 68
          ∷ [];
      seed = 1;
      rank = 1;
      weight = 1;
      solid = false;
    } ∷
    -- atom
    record {
      places = 596 ∷ 610 ∷ [];
      follow = 0 ∷ 6 ∷ 7 ∷ 8 ∷ 10 ∷ 11 ∷ 12 ∷ 14 ∷ 15 ∷ 27 ∷ 28 ∷ 30 ∷ 31 ∷ 32 ∷ 33 ∷
          34 ∷ 53 ∷ 54 ∷ 55 ∷ 56 ∷ 57 ∷ 58 ∷ 59 ∷ 60 ∷ 61 ∷ 62 ∷ 63 ∷ 64 ∷ 65 ∷ 66 ∷ 67
          ∷ 68 ∷ [];
      seed = 1;
      rank = 3;
      weight = 4;
      solid = true;
    } ∷
    -- atom_but_exists
    record {
      places = 614 ∷ 628 ∷ [];
      follow = 0 ∷ 6 ∷ 7 ∷ 8 ∷ 10 ∷ 11 ∷ 12 ∷ 14 ∷ 15 ∷ 27 ∷ 28 ∷ 30 ∷ 31 ∷ 32 ∷ 33 ∷
          34 ∷ 53 ∷ 54 ∷ 55 ∷ 56 ∷ 57 ∷ 58 ∷ 59 ∷ 60 ∷ 61 ∷ 62 ∷ 63 ∷ 64 ∷ 65 ∷ 66 ∷ 67
          ∷ 68 ∷ [];
      seed = 1;
      rank = 2;
      weight = 3;
      solid = true;
    } ∷
    -- atom_but_both
    record {
      places = 632 ∷ 638 ∷ 644 ∷ 650 ∷ 656 ∷ 664 ∷ 678 ∷ 692 ∷ 706 ∷ 724 ∷ 744 ∷ [];
      follow = 0 ∷ 6 ∷ 7 ∷ 8 ∷ 10 ∷ 11 ∷ 12 ∷ 14 ∷ 15 ∷ 27 ∷ 28 ∷ 30 ∷ 31 ∷ 32 ∷ 33 ∷
          34 ∷ 53 ∷ 54 ∷ 55 ∷ 56 ∷ 57 ∷ 58 ∷ 59 ∷ 60 ∷ 61 ∷ 62 ∷ 63 ∷ 64 ∷ 65 ∷ 66 ∷ 67
          ∷ 68 ∷ [];
      seed = 1;
      rank = 1;
      weight = 2;
      solid = true;
    } ∷
    -- fields
    record {
      places = 782 ∷ 786 ∷ [];
      follow = 0 ∷ 6 ∷ 7 ∷ 8 ∷ 10 ∷ 11 ∷ 12 ∷ 14 ∷ 15 ∷ 27 ∷ 28 ∷ 30 ∷ 31 ∷ 32 ∷ 33 ∷
          34 ∷ 53 ∷ 54 ∷ 55 ∷ 56 ∷ 57 ∷ 58 ∷ 59 ∷ 60 ∷ 61 ∷ 62 ∷ 63 ∷ 64 ∷ 65 ∷ 66 ∷ 67
          ∷ 68 ∷ [];
      seed = 0;
      rank = 1;
      weight = 3;
      solid = true;
    } ∷
    -- more_fields
    record {
      places = 794 ∷ 802 ∷ [];
      follow = 53 ∷ [];
      seed = 1;
      rank = 1;
      weight = 1;
      solid = false;
    } ∷
    -- field
    record {
      places = 804 ∷ [];
      follow = 53 ∷ 54 ∷ [];
      seed = 0;
      rank = 13;
      weight = 2;
      solid = true;
    } ∷
    -- members
    record {
      places = 816 ∷ 820 ∷ [];
      follow = 0 ∷ 6 ∷ 7 ∷ 8 ∷ 10 ∷ 11 ∷ 12 ∷ 14 ∷ 15 ∷ 27 ∷ 28 ∷ 30 ∷ 31 ∷ 32 ∷ 33 ∷
          34 ∷ 53 ∷ 54 ∷ 55 ∷ 56 ∷ 57 ∷ 58 ∷ 59 ∷ 60 ∷ 61 ∷ 62 ∷ 63 ∷ 64 ∷ 65 ∷ 66 ∷ 67
          ∷ 68 ∷ [];
      seed = 0;
      rank = 1;
      weight = 14;
      solid = true;
    } ∷
    -- more_members
    record {
      places = 830 ∷ 840 ∷ [];
      follow = 53 ∷ [];
      seed = 1;
      rank = 1;
      weight = 1;
      solid = false;
    } ∷
    -- whole
    record {
      places = 842 ∷ 846 ∷ [];
      follow = 0 ∷ 6 ∷ 7 ∷ 8 ∷ 10 ∷ 11 ∷ 12 ∷ 14 ∷ 15 ∷ 27 ∷ 28 ∷ 30 ∷ 31 ∷ 32 ∷ 33 ∷
          34 ∷ 53 ∷ 54 ∷ 55 ∷ 56 ∷ 57 ∷ 58 ∷ 59 ∷ 60 ∷ 61 ∷ 62 ∷ 63 ∷ 64 ∷ 65 ∷ 66 ∷ 67
          ∷ 68 ∷ [];
      seed = 0;
      rank = 1;
      weight = 1;
      solid = true;
    } ∷
    -- constant
    record {
      places = 850 ∷ 854 ∷ 858 ∷ [];
      follow = 0 ∷ 6 ∷ 7 ∷ 8 ∷ 10 ∷ 11 ∷ 12 ∷ 14 ∷ 15 ∷ 27 ∷ 28 ∷ 30 ∷ 31 ∷ 32 ∷ 33 ∷
          34 ∷ 53 ∷ 54 ∷ 55 ∷ 56 ∷ 57 ∷ 58 ∷ 59 ∷ 60 ∷ 61 ∷ 62 ∷ 63 ∷ 64 ∷ 65 ∷ 66 ∷ 67
          ∷ 68 ∷ [];
      seed = 0;
      rank = 1;
      weight = 1;
      solid = true;
    } ∷
    -- set
    record {
      places = 862 ∷ 866 ∷ 870 ∷ [];
      follow = 1 ∷ 5 ∷ 16 ∷ 19 ∷ 20 ∷ 21 ∷ 22 ∷ 23 ∷ 24 ∷ 25 ∷ 26 ∷ 35 ∷ 36 ∷ 37 ∷ 38
          ∷ 39 ∷ 40 ∷ 41 ∷ 42 ∷ 43 ∷ 44 ∷ 45 ∷ 46 ∷ 47 ∷ 48 ∷ 49 ∷ 50 ∷ 51 ∷ 52 ∷ 59 ∷
          [];
      seed = 0;
      rank = 1;
      weight = 1;
      solid = true;
    } ∷
    -- add
    record {
      places = 874 ∷ 878 ∷ 882 ∷ [];
      follow = 1 ∷ 5 ∷ 16 ∷ 19 ∷ 20 ∷ 21 ∷ 22 ∷ 23 ∷ 24 ∷ 25 ∷ 26 ∷ 35 ∷ 36 ∷ 37 ∷ 38
          ∷ 39 ∷ 40 ∷ 41 ∷ 42 ∷ 43 ∷ 44 ∷ 45 ∷ 46 ∷ 47 ∷ 48 ∷ 49 ∷ 50 ∷ 51 ∷ 52 ∷ 59 ∷
          [];
      seed = 0;
      rank = 1;
      weight = 1;
      solid = true;
    } ∷
    -- division
    record {
      places = 886 ∷ 890 ∷ [];
      follow = 50 ∷ 59 ∷ [];
      seed = 0;
      rank = 1;
      weight = 1;
      solid = true;
    } ∷
    -- test
    record {
      places = 894 ∷ 898 ∷ 902 ∷ 906 ∷ 910 ∷ 914 ∷ 918 ∷ [];
      follow = 1 ∷ 5 ∷ 16 ∷ 19 ∷ 20 ∷ 21 ∷ 22 ∷ 23 ∷ 24 ∷ 25 ∷ 26 ∷ 35 ∷ 36 ∷ 37 ∷ 38
          ∷ 39 ∷ 40 ∷ 41 ∷ 42 ∷ 43 ∷ 44 ∷ 45 ∷ 46 ∷ 47 ∷ 48 ∷ 49 ∷ 50 ∷ 51 ∷ 52 ∷ 59 ∷
          [];
      seed = 0;
      rank = 1;
      weight = 1;
      solid = true;
    } ∷
    -- unary
    record {
      places = 922 ∷ 926 ∷ 930 ∷ 934 ∷ 938 ∷ 942 ∷ 946 ∷ 950 ∷ 954 ∷ 958 ∷ 962 ∷ [];
      follow = 52 ∷ [];
      seed = 0;
      rank = 1;
      weight = 1;
      solid = true;
    } ∷
    -- binary
    record {
      places = 966 ∷ 970 ∷ 974 ∷ [];
      follow = 52 ∷ [];
      seed = 0;
      rank = 1;
      weight = 1;
      solid = true;
    } ∷
    -- branding
    record {
      places = 978 ∷ 982 ∷ [];
      follow = 52 ∷ [];
      seed = 0;
      rank = 1;
      weight = 1;
      solid = true;
    } ∷
    -- label
    record {
      places = 986 ∷ 990 ∷ 994 ∷ 998 ∷ 1002 ∷ 1006 ∷ 1010 ∷ 1014 ∷ 1018 ∷ 1022 ∷ 1026 ∷ 1030
          ∷ 1034 ∷ 1038 ∷ 1042 ∷ 1046 ∷ 1050 ∷ 1054 ∷ 1058 ∷ 1062 ∷ 1066 ∷ 1070 ∷ 1074 ∷ 1078
          ∷ 1082 ∷ 1086 ∷ 1090 ∷ 1094 ∷ 1098 ∷ 1102 ∷ 1106 ∷ 1110 ∷ 1114 ∷ 1118 ∷ 1122 ∷ 1126
          ∷ 1130 ∷ 1134 ∷ 1138 ∷ 1142 ∷ 1146 ∷ 1150 ∷ 1154 ∷ 1158 ∷ 1162 ∷ 1166 ∷ 1170 ∷ 1174
          ∷ [];
      follow = 0 ∷ 6 ∷ 7 ∷ 8 ∷ 10 ∷ 11 ∷ 12 ∷ 14 ∷ 15 ∷ 27 ∷ 28 ∷ 30 ∷ 31 ∷ 32 ∷ 33 ∷
          34 ∷ 53 ∷ 54 ∷ 55 ∷ 56 ∷ 57 ∷ 58 ∷ 59 ∷ 60 ∷ 61 ∷ 62 ∷ 63 ∷ 64 ∷ 65 ∷ 66 ∷ 67
          ∷ 68 ∷ [];
      seed = 0;
      rank = 1;
      weight = 1;
      solid = true;
    } ∷
    []
