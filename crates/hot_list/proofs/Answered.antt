-- The hot list where its sizes are good, by what the account and `order` promise: the call is lent a list of zones as long as the
-- account's list of local numerators. Assumes nothing.
use mathlib.Core.Path.{◌≡◌, sym, ap, ◌∙◌}
use mathlib.Core.List.{List, [], ◌∷◌}
use Prim.Native.Nat.{ℕ, ◌*◌}
use lib.IntN.{ℤ}
use lib.ListN.{length}
use Rattle.whole.proofs.Rules.{fits, sizes_hold}
use Rattle.refusals.proofs.Refusals.{worked_by}
use Rattle.account.specs.Refusals.{job_lengths, account_refusal}
use Rattle.account.specs.Answers.{job_locals, account_locals}
use Rattle.account.proofs.Theorems.{sizes_refusal, sizes_fit, refusal_same, locals_left, job_locals_length}
use Rattle.hot_list.specs.HotList.{in_order, order_refusal, order_left, hot_list, hot_zones}
use Rattle.hot_list.proofs.Ordered.{order_taken}

module _ (n : ℕ) (values : List ℤ) (weights zones : List ℕ) (good : sizes_refusal n values weights zones ≡ 0) (locals : List ℤ)
    (places : length locals ≡ n) where
  -- what the account refuses is refused
  pub same : account_refusal n values weights locals ≡ account_refusal n values weights zones
  same = refusal_same n values weights locals zones (places ∙ sym (sizes_fit n values weights zones good).1)

  -- of the rest `order` refuses nothing, where it is lent a numerator for each zone
  in_range : (held : List ℤ) → length held ≡ n → order_refusal n (length values) (length weights) (length held) (length zones) ≡ 0
  in_range held l =
      let lengths = job_lengths n (length values) (length weights) ((length zones, n) ∷ []) in
      let sizes = sizes_hold n lengths good in
      let own = fits (length values) n ((length weights, n * n) ∷ (length zones, n) ∷ []) sizes.fitting in
      let lent = fits (length weights) (n * n) ((length zones, n) ∷ []) own.1 in
      order_taken n (length values) (length weights) (length held) (length zones)
      (record {
        two = sizes.two;
        most = sizes.zones;
        values_fit = own.0;
        weights_fit = lent.0;
        locals_fit = l;
        zones_fit = (sizes_fit n values weights zones good).1;
      })

  -- and puts the zones in the order of the local numerators that the account left
  module _ (held : List ℤ) (taken : 0 ≡ account_refusal n values weights locals) (h : held ≡ account_locals n values weights locals) where
    job : held ≡ job_locals n values weights
    job = locals_left n values weights locals (sym taken) held h

    pub number_put : order_refusal n (length values) (length weights) (length held) (length zones) ≡ account_refusal n values weights zones
    number_put = in_range held (ap length job ∙ job_locals_length n values weights) ∙ taken ∙ same

    pub zones_put : order_left n values weights held zones ≡ hot_zones n values weights zones
    unfolding order_left hot_zones hot_list
    zones_put =
        let none = in_range held (ap length job ∙ job_locals_length n values weights) in
        worked_by _ _ _ (sym none) ∙ ap (in_order n values weights) job ∙ sym (worked_by _ _ _ (taken ∙ same))
