-- The buffers that the host lends with a reading: what the Rust's `Descriptor` holds and what the forest answers, as lists.
use Rattle.std.specs.Prelude.{List, Float}
use Rattle.descriptor.specs.declared.Lent as Declared

pub record Lent : Type 0 where
  -- the reading's point, oldest row first
  pub point : List Float
  pub scale : List Float
  pub shift : List Float
  pub difference_deviations : List Float
  -- the last anomaly's expected and anomalous point, behind its yes/no
  pub last_expected : List Float
  pub last_anomalous : List Float
  -- the corrected point's attribution
  pub high : List Float
  pub low : List Float
  -- the conditional field's median
  pub median : List Float
  -- the expected point's attribution
  pub ideal_high : List Float
  pub ideal_low : List Float
  -- the near neighbours' points, one behind the other
  pub neighbours : List Float

abbrev pub lent : List Float → List Float → List Float → List Float → List Float → List Float → List Float → List Float → List Float → List Float → List Float → List Float → Lent
lent p sc sh dd le la h l m ih il ns = record {
  point = p;
  scale = sc;
  shift = sh;
  difference_deviations = dd;
  last_expected = le;
  last_anomalous = la;
  high = h;
  low = l;
  median = m;
  ideal_high = ih;
  ideal_low = il;
  neighbours = ns;
}

-- What the code is lent, as lists.
abbrev pub lists_of : Declared.Lent → Lent
lists_of b =
    lent b.point.now b.scale.now b.shift.now b.difference_deviations.now b.last_expected.now b.last_anomalous.now b.high.now b.low.now
    b.median.now b.ideal_high.now b.ideal_low.now b.neighbours.now
