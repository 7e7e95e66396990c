-- The table of the sample rates: a rate is found in it exactly if it is one of the four. Assumes nothing.
use Rattle.std.proofs.Common.{◌≡◌, Bool, true, false, cond, ◌||◌, is_some, Some, None, refl}

pub found_exactly : {X : Type 0} (x y z w : X) (p q r s : Bool) →
    is_some (cond p (Some x) (cond q (Some y) (cond r (Some z) (cond s (Some w) None)))) ≡ (p || q || r || s)
found_exactly x y z w true q r s = refl
found_exactly x y z w false true r s = refl
found_exactly x y z w false false true s = refl
found_exactly x y z w false false false true = refl
found_exactly x y z w false false false false = refl
