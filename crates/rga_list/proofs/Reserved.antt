-- What a reserve and a new list leave of the tables.
use Rattle.std.proofs.Common.{◌≡◌, ℕ, ◌-◌, ◌<◌, ◌≤◌, ◌⊎◌, inl, inr, Option, Some, None, List, [], length, set, refl, ap, ◌∙◌, sym, arith}
use Rattle.std.proofs.Common.{get_or-set_other, get_or-set_same}
use Rattle.std.proofs.lemmas.Bool.{cases_eq}
use Rattle.rga_list.specs.declared.links.Node.{Node}
use Rattle.rga_list.specs.Internal.SiteIds.{SiteIds, find_id}
use Rattle.rga_list.specs.Internal.Links.{ids_at, AreNamed, IsList}

pub set-keeps : {X : Type 0} (f : SiteIds → X) (rows : List SiteIds) (i k : ℕ) (r : SiteIds) → i < length rows → f r ≡ f (ids_at rows i)
    → f (ids_at (set rows i r) k) ≡ f (ids_at rows k)
set-keeps {X} f rows i k r l e = go (cases_eq k i)
  where
    go : (k ≡ i) ⊎ (k ≡ i → ⊥) → f (ids_at (set rows i r) k) ≡ f (ids_at rows k)
    go (inl q) = ap (λ v. f (ids_at (set rows i r) v)) q ∙ ap f (get_or-set_same rows i r (record { ids = []; reserved = 0 }) l) ∙ e
        ∙ ap (λ v. f (ids_at rows v)) (sym q)
    go (inr d) = ap f (get_or-set_other rows i k r (record { ids = []; reserved = 0 }) d)

-- rows with the same identifiers name the same
pub AreNamed-same : (nodes : List Node) (rows new : List SiteIds) → ((k : ℕ) → (ids_at new k).ids ≡ (ids_at rows k).ids)
    → AreNamed nodes rows
    → AreNamed nodes new
AreNamed-same nodes rows new same n = record {
  sites = n.sites;
  each = λ i l. ap (find_id _) (same _) ∙ n.each i l;
  only = λ s i e. n.only s i (ap (find_id s.sum) (sym (same s.site)) ∙ e);
}

pub IsList-same : (nodes : List Node) (first : Option ℕ) (rows new : List SiteIds) → length new ≡ length rows
    → ((k : ℕ) → (ids_at new k).ids ≡ (ids_at rows k).ids) → IsList nodes first rows → IsList nodes first new
IsList-same nodes first rows new size same h = record {
  linked = h.linked;
  apart = h.apart;
  are_named = AreNamed-same nodes rows new same h.are_named;
  few = h.few;
  width = size ∙ h.width;
}

pub IsList-none : (rows : List SiteIds) → length rows ≡ 32 → ((k : ℕ) → (ids_at rows k).ids ≡ []) → IsList [] None rows
IsList-none rows size none = record {
  linked = record { leads = refl; once = tt; each = refl; covers = λ i l. absurd (omega arith) };
  apart = λ i j l m e. absurd (omega arith);
  are_named = record {
    sites = λ i l. absurd (omega arith);
    each = λ i l. absurd (omega arith);
    only = λ s i e. let found : None ≡ Some i = sym (ap (find_id s.sum) (none s.site)) ∙ e in cc;
  };
  few = omega arith;
  width = size;
}

-- one identifier more in one row
pub reserved-pushed : (rows : List SiteIds) (site k reserved : ℕ) (r : SiteIds) → site < length rows
    → r.reserved ≡ (ids_at rows site).reserved - 1
    → ((j : ℕ) → j < 32 → reserved ≤ (ids_at rows j).reserved) → k < 32 → site < 32
    → reserved - 1 ≤ (ids_at (set rows site r) k).reserved
reserved-pushed rows site k reserved r l e h m b = go (cases_eq k site)
  where
    go : (k ≡ site) ⊎ (k ≡ site → ⊥) → reserved - 1 ≤ (ids_at (set rows site r) k).reserved
    go (inl q) =
        let here : (ids_at (set rows site r) k).reserved ≡ (ids_at rows site).reserved - 1 =
        ap (λ j. (ids_at (set rows site r) j).reserved) q ∙ ap (λ (v : SiteIds). v.reserved)
        (get_or-set_same rows site r (record { ids = []; reserved = 0 }) l) ∙ e in
        omega (arith, here, h site b)
    go (inr d) =
        let here : (ids_at (set rows site r) k).reserved ≡ (ids_at rows k).reserved =
        ap (λ (v : SiteIds). v.reserved) (get_or-set_other rows site k r (record { ids = []; reserved = 0 }) d) in
        omega (arith, here, h k m)
