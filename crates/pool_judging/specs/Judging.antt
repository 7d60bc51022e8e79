-- Judging in a pool is `krcf_detect_and_modify` on the bytes of the drawer's state: the contract of a call that answered n over the pool xs and left xs', and of the
-- four slices that it may write beside it, before and after.
use Rattle.std.specs.Prelude.{ℕ, ◌≡◌, List, Float, Result, Ok, Err}
use Rattle.types.specs.Refusals.{number}
use Rattle.types.specs.declared.Refusal.{Refusal}
use Rattle.descriptor.specs.Lent.{Lent}
use Rattle.c_judging.specs.Judging.{Answered}
use Rattle.record_pool.specs.Pool.{locate, state_at, with_state}
use Rattle.record_pool.specs.declared.Slot.{Slot}

module _ (xs reading last : List ℕ) (b : Lent) (n : ℕ) (e h w : List Float) (v xs' : List ℕ) (e' h' w' : List Float) (v' : List ℕ) where
  -- In record i: the state's bytes afterwards are state', and no other byte changed.
  pub record JudgedIn (i : ℕ) : Type 0 where
    pub state' : List ℕ
    pub judged : Answered (state_at xs i) reading last b n e h w v state' e' h' w' v'
    pub bytes : xs' ≡ with_state xs i state'

  -- Refused before a record was found: 13, then 11. Nothing changed.
  pub record Unjudged (why : Refusal) : Type 0 where
    pub answer : n ≡ number why
    pub bytes : xs' ≡ xs
    pub point : e' ≡ e
    pub highs : h' ≡ h
    pub lows : w' ≡ w
    pub verdict : v' ≡ v

  abbrev pub JudgedBy : Result Slot Refusal → Type 0
  JudgedBy (Ok s) = JudgedIn s.index
  JudgedBy (Err why) = Unjudged why

  abbrev pub Judged : ℕ → Type 0
  Judged d = JudgedBy (locate xs d)
