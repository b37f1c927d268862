-- "Prove that two results allowed by one statement are equal", said of a function's own contract. The check reads a contract's clauses as two
-- claims, in the function's `Reads`: `Asked`, of the arguments a, and `Learnt`, of those, the result and the lent buffers at exit. T is
-- the function's signature with what is kept at exit, its `ended`.
-- Assumes nothing.
use Rattle.std.specs.Prelude.{◌≡◌}
use Rattle.std.proofs.Common.{sym, ◌∙◌}
use contract.Lifetimes.{Lfts}
use denote.Triple.Entry.{Args, Res}
use denote.Triple.Clauses.{Ended, Lasts, AtExit, at_exit}

module _ (T : Ended) where
  abbrev pub Asks : Type 1
  Asks = (κs : Lfts T.signature.lifetimes) → Args T.signature κs → Type 0

  abbrev pub Says : Type 1
  Says = (κs : Lfts T.signature.lifetimes) → Args T.signature κs → Res T.signature κs → AtExit T κs → Type 0

-- every argument is taken; two results x and y are equal, and so is what they leave in the buffers, v and w
pub record One (T : Ended) (asked : Asks T) (learnt : Says T) : Type 0 where
  pub always : (κs : Lfts T.signature.lifetimes) (a : Args T.signature κs) → asked κs a
  pub one : (κs : Lfts T.signature.lifetimes) (a : Args T.signature κs) (x y : Res T.signature κs) (v w : Lasts T κs a)
      → learnt κs a x (at_exit T κs a v)
      → learnt κs a y (at_exit T κs a w)
      → (x ≡ y) × (v ≡ w)

module _ {T : Ended} {d : (κs : Lfts T.signature.lifetimes) → Args T.signature κs → Res T.signature κs} where
  -- of a contract that says "the result is d of the arguments", where nothing is lent: v and w hold nothing
  pub answers : ((κs : Lfts T.signature.lifetimes) (a : Args T.signature κs) (v w : Lasts T κs a) → v ≡ w)
      → One T (λ κs a. Unit {0}) (λ κs a x e. x ≡ d κs a)
  answers same = record { always = λ κs a. tt; one = λ κs a x y v w p q. (p ∙ sym q, same κs a v w) }

  -- and of one that says too "what is left is b of the arguments"
  pub leaves : {B : Type 0} {left : (κs : Lfts T.signature.lifetimes) → AtExit T κs → B} {b : (κs : Lfts T.signature.lifetimes) → Args T.signature κs → B}
      → ((κs : Lfts T.signature.lifetimes) (a : Args T.signature κs) (v w : Lasts T κs a) → left κs (at_exit T κs a v) ≡ left κs (at_exit T κs a w) → v ≡ w)
      → One T (λ κs a. Unit {0}) (λ κs a x e. (x ≡ d κs a) × (left κs e ≡ b κs a))
  leaves same = record { always = λ κs a. tt; one = λ κs a x y v w p q. (p.0 ∙ sym q.0, same κs a v w (p.1 ∙ sym q.1)) }
