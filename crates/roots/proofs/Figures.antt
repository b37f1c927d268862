-- Figures of the school method, proved about the definitions.
-- Assumes nothing.
use Rattle.std.specs.Prelude.{◌≡◌, refl, [], ◌∷◌, replicate}
use Rattle.std.proofs.Common.{sym, arith}
use Rattle.sines.specs.Greatest.{greatest}
use Rattle.roots.specs.Root.{root_of}
use Rattle.roots.proofs.RootLaws.{root_is}
use Rattle.roots.specs.School.{behind_first, pairs, digit_of, steps_from, steps_of, school_of}

-- the page's example
pub steps_55000 : steps_of 55_000
    ≡ record { pair = 5; digit = 2; rest = 1 } ∷ record { pair = 50; digit = 3; rest = 21 } ∷ record { pair = 0; digit = 4; rest = 244 } ∷ []
unfolding behind_first pairs digit_of steps_from steps_of greatest
steps_55000 = refl

-- 0 has one pair
pub steps_0 : steps_of 0 ≡ record { pair = 0; digit = 0; rest = 0 } ∷ []
unfolding behind_first pairs digit_of steps_from steps_of greatest
steps_0 = refl

-- the greatest number of 64 bits has ten, and a root of 32
pub steps_all_ones : steps_of 18_446_744_073_709_551_615
    ≡ record { pair = 18; digit = 4; rest = 2 } ∷ record { pair = 44; digit = 2; rest = 80 } ∷ record { pair = 67; digit = 9; rest = 426 }
    ∷ record { pair = 44; digit = 4; rest = 8_308 } ∷ record { pair = 7; digit = 9; rest = 57_806 } ∷ record { pair = 37; digit = 6; rest = 626_721 }
    ∷ record { pair = 9; digit = 7; rest = 2_542_620 } ∷ record { pair = 55; digit = 2; rest = 82_463_371 }
    ∷ record { pair = 16; digit = 9; rest = 515_396_075 } ∷ record { pair = 15; digit = 5; rest = 8_589_934_590 } ∷ []
unfolding behind_first pairs digit_of steps_from steps_of greatest
steps_all_ones = refl

pub root_all_ones : root_of 18_446_744_073_709_551_615 ≡ 4_294_967_295
root_all_ones = sym (root_is (omega arith) (omega arith))

root_55000 : root_of 55_000 ≡ 234
root_55000 = sym (root_is (omega arith) (omega arith))

-- the page's example, as it is handed out
pub school_55000 : school_of 55_000 ≡ record {
  root = 234;
  count = 3;
  steps = record { pair = 5; digit = 2; rest = 1 } ∷ record { pair = 50; digit = 3; rest = 21 } ∷ record { pair = 0; digit = 4; rest = 244 }
      ∷ replicate 7 (record { pair = 0; digit = 0; rest = 0 });
}
school_55000 = rw (root_55000, steps_55000) refl
