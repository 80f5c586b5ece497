-- The word of a DVM message.
use Rattle.std.proofs.Common.{◌≡◌, ℕ, zero, suc, ◌/◌, ◌%◌, ◌<◌, ◌||◌, nat_eq, nat_le, is_some, refl, ap, arith}
use Rattle.std.proofs.lemmas.Nat.Bits.{bit_at_lowest}
use Rattle.ace_sysck.proofs.Terms.{entry, is_some_and, operations, operation_of, is_sync_operation, is_sync_word, has_second}

pub second_is : (word : ℕ) → has_second word ≡ nat_eq (word % 2) 1
second_is word = ap (λ b. nat_eq b 1) (bit_at_lowest word)

-- which codes have an operation, and which is that of a Sync
has_code : (n : ℕ) → n < 8 → is_some (entry n operations) ≡ (nat_le n 4 || nat_eq n 6)
has_code zero low = refl
has_code (suc zero) low = refl
has_code (suc (suc zero)) low = refl
has_code (suc (suc (suc zero))) low = refl
has_code (suc (suc (suc (suc zero)))) low = refl
has_code (suc (suc (suc (suc (suc zero))))) low = refl
has_code (suc (suc (suc (suc (suc (suc zero)))))) low = refl
has_code (suc (suc (suc (suc (suc (suc (suc zero))))))) low = refl
has_code (suc (suc (suc (suc (suc (suc (suc (suc n)))))))) low = absurd (omega arith)

sync_code : (n : ℕ) → n < 8 → is_some_and (entry n operations) is_sync_operation ≡ nat_eq n 4
sync_code zero low = refl
sync_code (suc zero) low = refl
sync_code (suc (suc zero)) low = refl
sync_code (suc (suc (suc zero))) low = refl
sync_code (suc (suc (suc (suc zero)))) low = refl
sync_code (suc (suc (suc (suc (suc zero))))) low = refl
sync_code (suc (suc (suc (suc (suc (suc zero)))))) low = refl
sync_code (suc (suc (suc (suc (suc (suc (suc zero))))))) low = refl
sync_code (suc (suc (suc (suc (suc (suc (suc (suc n)))))))) low = absurd (omega arith)

pub operation_is : (word : ℕ) → is_some (operation_of word) ≡ (nat_le (word / 4096 % 8) 4 || nat_eq (word / 4096 % 8) 6)
operation_is word = has_code (word / 4096 % 8) (omega arith)

pub sync_is : (word : ℕ) → is_sync_word word ≡ nat_eq (word / 4096 % 8) 4
sync_is word = sync_code (word / 4096 % 8) (omega arith)
