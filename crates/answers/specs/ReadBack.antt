-- What can be read back is one to one: so the equation of a contract, which states an answer's number and values, fixes its case.
use Rattle.std.specs.Prelude.{◌≡◌}
use Rattle.std.proofs.Common.{sym, ap, ◌∙◌}

module _ {A : Type 0} {B : Type 0} where
  -- no two of a kind are said alike
  abbrev pub OneToOne : (A → B) → Type 0
  OneToOne f = (a b : A) → f a ≡ f b → a ≡ b

  pub read_back_one_to_one : {f : A → B} (back : B → A) → ((a : A) → back (f a) ≡ a) → OneToOne f
  read_back_one_to_one back h a b e = sym (h a) ∙ (ap back e ∙ h b)
