-- What engines have heard once they heard one burst and then another.
use Rattle.std.proofs.Common.{◌≡◌, ◌+◌, ℕ, Bool, true, false, not, List, [], ◌∷◌, ◌++◌, Some, slice_get, length, take, refl, sym, ap, subst, ◌∙◌, arith}
use Rattle.std.proofs.Math.ListN.{get_or}
use Rattle.std.proofs.lemmas.Bool.{and_from, and_parts, not-true}
use Rattle.std.proofs.lemmas.List.{take_more}
use Rattle.std.proofs.lemmas.Option.{get_or_from_slice_get, slice_get-get_or, slice_get_within}
use Rattle.ace_event.specs.declared.event.Event.{Event}
use Rattle.ace_model.specs.Plans.{Plan}
use Rattle.ace_model.specs.Trace.{Trace}
use Rattle.ace_model.proofs.General.Options.{Some-injective}
use Rattle.ace_runs.specs.Bursts.{onto}
use Rattle.ace_engine.specs.Engines.{IsLegal, is_given_by}
use Rattle.ace_engine.specs.Heard.{none_passes}
use Rattle.ace_engine.specs.declared.engine.Engine.{Ghosts}
use Rattle.ace_engine.proofs.Heard.{legal-before, onto-append}
use Rattle.ace_fabric.specs.Parts.{HasHeard, HaveHeard}

none-of-both : (test : Trace → Event → Bool) (xs ys : List Event) (past : Trace) → none_passes test past (xs ++ ys) ≡ true → (none_passes test past xs ≡ true) × (none_passes test (onto xs past) ys ≡ true)
none-of-both test [] ys past none = (refl, none)
none-of-both test (x ∷ xs) ys past none =
    let parts = and_parts (not (test past x)) (none_passes test (x ∷ past) (xs ++ ys)) none in
    let rest = none-of-both test xs ys (x ∷ past) parts.1 in
    (and_from (not (test past x)) (none_passes test (x ∷ past) xs) parts.0 rest.0, rest.1)

module _ {E : Type 0} (g : Ghosts E) where
  -- it heard nothing
  pub heard-none : (x : E) → HasHeard g [] x x
  heard-none x = record { serves = λ p. refl; stands = λ plan past s legal none. s }

  -- it heard one event
  pub heard-event : (e : Event) (x y : E) → ((p : ℕ) → g.serves y p ≡ g.serves x p)
      → ((plan : Plan) (past : Trace) → g.stands x plan past → IsLegal plan (e ∷ past) → ((p : ℕ) → g.serves x p ≡ true → is_given_by g.kind past p e ≡ false) → g.stands y plan (e ∷ past))
      → HasHeard g (e ∷ []) x y
  heard-event e x y serves stands = record {
    serves = serves;
    stands = λ plan past s legal none. stands plan past s legal (λ p own. not-true (is_given_by g.kind past p e) (and_parts (not (is_given_by g.kind past p e)) true (none p own)).0);
  }

  -- it heard one burst after another
  heard-both : (xs ys : List Event) (x y z : E) → HasHeard g xs x y → HasHeard g ys y z → HasHeard g (xs ++ ys) x z
  heard-both xs ys x y z a b = record {
    serves = λ p. b.serves p ∙ a.serves p;
    stands = λ plan past s legal none.
        let more = onto-append xs ys past in
        let later = subst (IsLegal plan) more legal in
        let before = legal-before plan ys (onto xs past) later in
        subst (g.stands z plan) (sym more)
        (b.stands plan (onto xs past) (a.stands plan past s before (λ p own. (none-of-both (λ t f. is_given_by g.kind t p f) xs ys past (none p own)).0)) later
        (λ p own. (none-of-both (λ t f. is_given_by g.kind t p f) xs ys past (none p (sym (a.serves p) ∙ own))).1));
  }

  -- each but one heard one burst after another
  have-both : (xs ys : List Event) (but n : ℕ) (olds mids news : List E) → HaveHeard g xs but n olds mids → HaveHeard g ys but n mids news → HaveHeard g (xs ++ ys) but n olds news
  have-both xs ys but n olds mids news a b = record {
    each = λ k x z gx gz low off.
        let within = slice_get_within olds k x gx in
        let len = a.len in
        let mid : slice_get mids k ≡ Some (get_or mids k x) = slice_get-get_or mids k x (omega (arith, within, len)) in
        heard-both xs ys x (get_or mids k x) z (a.each k x (get_or mids k x) gx mid low off) (b.each k (get_or mids k x) z mid gz low off);
    rest = λ k high. b.rest k high ∙ a.rest k high;
    same = b.same ∙ a.same;
    len = b.len ∙ a.len;
  }

  -- they heard nothing
  pub have-none : (but n : ℕ) (xs : List E) → HaveHeard g [] but n xs xs
  have-none but n xs = record {
    each = λ k x y gx gy low off. subst (λ (z : E). HasHeard g [] x z) (Some-injective x y (sym gx ∙ gy)) (heard-none x);
    rest = λ k high. refl;
    same = refl;
    len = refl;
  }

  module _ (es : List Event) (i : ℕ) (e : Event) (at : slice_get es i ≡ Some e) where
    one-more : take i es ++ e ∷ [] ≡ take (i + 1) es
    one-more = ap (λ (f : Event). take i es ++ f ∷ []) (sym (get_or_from_slice_get es i e e at)) ∙ sym (take_more es i e (slice_get_within es i e at))

    -- it heard one more of the events
    pub heard-next : (x y z : E) → HasHeard g (take i es) x y → HasHeard g (e ∷ []) y z → HasHeard g (take (i + 1) es) x z
    heard-next x y z a b = subst (λ fs. HasHeard g fs x z) one-more (heard-both (take i es) (e ∷ []) x y z a b)

    -- each but one heard one more of them
    pub have-next : (but : ℕ) (olds mids news : List E) → HaveHeard g (take i es) but (length olds) olds mids → HaveHeard g (e ∷ []) but (length mids) mids news → HaveHeard g (take (i + 1) es) but (length olds) olds news
    have-next but olds mids news a b =
        subst (λ fs. HaveHeard g fs but (length olds) olds news) one-more
        (have-both (take i es) (e ∷ []) but (length olds) olds mids news a (subst (λ n. HaveHeard g (e ∷ []) but n mids news) a.len b))
