-- What a run that counts comes to as its budget grows: at every budget the count is the budget; or there is one count
-- c such that it is so up to c, and all larger budgets end in one and the same.
use Rattle.std.specs.Prelude.{◌≡◌, ℕ, ◌<◌, ◌≤◌}

-- of what is counted and what is run at each budget, up to the budget `most`
pub data Threshold {A : Type 0} (count : ℕ → ℕ) (ran : ℕ → A) (most : ℕ) : Type 0 where
  never : ((b : ℕ) → b ≤ most → count b ≡ b) → Threshold count ran most
  from : (c : ℕ) → c < most → ((b : ℕ) → b ≤ c → count b ≡ b) → ((b : ℕ) → c < b → count b ≡ c) → (end : A)
      → ((b : ℕ) → c < b → ran b ≡ end) → Threshold count ran most
