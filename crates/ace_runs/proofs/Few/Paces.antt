-- Events that come at most so many times for each operation.
use Rattle.std.proofs.Common.{◌≡◌, ◌⊎◌, ℕ, ◌+◌, ◌*◌, ◌≤◌, ◌<◌, arith, inl, inr, add-mul, one-mul, mul-le-mul_right, refl}

-- Of a port: so many such events so far, of which so many came since its last OP; so many operations that have retired, of so many.
-- At most k of the events come for each operation.
pub record IsPaced (k count since retired operations : ℕ) : Type 0 where
  pub sum : count ≤ retired * k + since
  pub few : since ≤ k
  pub fewer : retired ≤ operations
  pub within : (since ≡ 0) ⊎ (retired < operations)

pub paced_start : (k n : ℕ) → IsPaced k 0 0 0 n
paced_start k n = record { sum = omega arith; few = omega arith; fewer = omega arith; within = inl refl }

-- one event more
pub paced_more : (k count since retired n : ℕ) → IsPaced k count since retired n → since < k → retired < n → IsPaced k (count + 1) (since + 1) retired n
paced_more k count since retired n i room next = record {
  sum = omega (arith, i.sum);
  few = omega (arith, room);
  fewer = i.fewer;
  within = inr next;
}

-- an operation retires
pub paced_retire : (k count since retired n : ℕ) → IsPaced k count since retired n → retired < n → IsPaced k count 0 (retired + 1) n
paced_retire k count since retired n i next = record {
  sum = omega (arith, i.sum, i.few, add-mul retired 1 k, one-mul k);
  fewer = omega (arith, next);
  few = omega arith;
  within = inl refl;
}

-- so there are at most k for each
pub paced_whole : (k count since retired n : ℕ) → IsPaced k count since retired n → count ≤ n * k
paced_whole k count since retired n i =
    elim i.within [
      | inl none ↦ let more : retired * k ≤ n * k = mul-le-mul_right k i.fewer in omega (arith, i.sum, none, more)
      | inr next ↦ let more : (retired + 1) * k ≤ n * k = mul-le-mul_right k (omega (arith, next)) in omega (arith, i.sum, i.few, add-mul retired 1 k, one-mul k, more)
    ]
