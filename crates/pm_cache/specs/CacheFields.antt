-- What the fields of a cache stand for.
use Rattle.std.specs.Prelude.{◌≡◌, length}
use Rattle.pm_cache.specs.Cache.{Cache, IsCache, aggregate_of}
use Rattle.pm_cache.specs.declared.cache.BidCache.TheInside.{Inside}

-- the entries that the fields have
abbrev pub cache_of : Inside → Cache
cache_of inside = record {
  steps = length inside.aggregate;
  heads = inside.heads.items;
  demands = inside.demands.items;
}

-- the kept aggregate is the sum of the entries
pub record KeepsSum (inside : Inside) : Type 0 where
  pub aggregate : inside.aggregate ≡ aggregate_of (cache_of inside)
  pub sound : IsCache (cache_of inside)
