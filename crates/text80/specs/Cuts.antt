use Rattle.std.specs.Prelude.{◌≡◌, ℕ, Bool, true, false, List, ◌++◌, All, IfSome, slice_get}

-- The text is cut after its longest beginning whose bytes all pass the test.
pub record IsCut (test : ℕ → Bool) (text front back : List ℕ) : Type 0 where
  pub text_is : text ≡ front ++ back
  pub passes : All (λ b. test b ≡ true) front
  pub ends : IfSome (slice_get back 0) (λ b. test b ≡ false)
