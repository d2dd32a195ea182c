-- A small product line, by which the definitions are read.
--
--     features X;
--     class A extends Object { @X B f; A(@X B f) { super(); @X this.f = f; } B m(C c) { return c.n(); } }
--     class B extends A { B(@X B f) { super(@X f); } }
--     class C extends Missing { C() { super(); } B n() { return new B(); } }
use Rattle.std.specs.Prelude.{List, [], ◌∷◌, codes}
use Rattle.cfj_logic.specs.Sides.{Sides}
use Rattle.cfj_model.specs.Coloring.{no_colors}
use Rattle.cfj_model.specs.ProductLines.{ProductLine, object}
use Rattle.cfj_model.specs.declared.class.Class.{Class}
use Rattle.cfj_model.specs.declared.class.Field.{Field}
use Rattle.cfj_model.specs.declared.class.Method.{Method}
use Rattle.cfj_model.specs.declared.class.Param.{Param}
use Rattle.cfj_model.specs.declared.class.Sent.{Sent}
use Rattle.cfj_model.specs.declared.expr.Expr.TheVariants as e
use Rattle.cfj_model.specs.declared.feature_model.Format.TheVariants.{One}
use Rattle.unit_facts.specs.declared.unit.Key.{Key}
use Rattle.unit_facts.specs.declared.unit.Key.TheVariants as key
use Rattle.unit_facts.specs.declared.unit.Unit.{Unit}
use Rattle.unit_facts.specs.declared.unit.Unit.TheVariants as unit

-- the mark `@X`
abbrev pub marked_x : Sides
marked_x = record { on = 1; off = 0 }

abbrev pub field_f : Field
field_f = record { alt = 0; colors = marked_x; of = codes "B"; name = codes "f" }

abbrev pub takes_f : Param
takes_f = record { slot = 0; colors = marked_x; of = codes "B"; name = codes "f" }

abbrev pub names_f : Sent
names_f = record { slot = 0; colors = marked_x; name = codes "f" }

abbrev pub method_m : Method
method_m =
    record {
      alt = 0;
      colors = no_colors;
      result = codes "B";
      name = codes "m";
      params = record { slot = 0; colors = no_colors; of = codes "C"; name = codes "c" } ∷ [];
      body = e.Call 1 (e.Var 0 (codes "c")) (codes "n") [];
    }

abbrev pub method_n : Method
method_n =
    record {
      alt = 0;
      colors = no_colors;
      result = codes "B";
      name = codes "n";
      params = [];
      body = e.New 0 (codes "B") [];
    }

abbrev pub class_a : Class
class_a =
    record {
      name = codes "A";
      colors = no_colors;
      parent = object;
      fields = field_f ∷ [];
      ctor = record { params = takes_f ∷ []; sends = []; assigns = names_f ∷ [] };
      methods = method_m ∷ [];
    }

abbrev pub class_b : Class
class_b =
    record {
      name = codes "B";
      colors = no_colors;
      parent = codes "A";
      fields = [];
      ctor = record { params = takes_f ∷ []; sends = names_f ∷ []; assigns = [] };
      methods = [];
    }

abbrev pub class_c : Class
class_c =
    record {
      name = codes "C";
      colors = no_colors;
      parent = codes "Missing";
      fields = [];
      ctor = record { params = []; sends = []; assigns = [] };
      methods = method_n ∷ [];
    }

abbrev pub sample : ProductLine
sample =
    record {
      model = record { format = One; features = codes "X" ∷ []; constraints = [] };
      classes = class_a ∷ (class_b ∷ (class_c ∷ []));
    }

-- its units: the model, A and its method, B, C and its method
abbrev pub units_listed : List Unit
units_listed =
    unit.Model
    ∷ (unit.Class (codes "A")
    ∷ (unit.Method (codes "A") (codes "m") 0
    ∷ (unit.Class (codes "B")
    ∷ (unit.Class (codes "C")
    ∷ (unit.Method (codes "C") (codes "n") 0 ∷ [])))))

-- what `A.m()` reaches: in the classes that it names and in the one above `C` the methods of its name and the one it calls
abbrev pub keys_of_m : List Key
keys_of_m =
    key.Model
    ∷ (key.Head (codes "A")
    ∷ (key.Head (codes "B")
    ∷ (key.Head (codes "C")
    ∷ (key.Head (codes "Missing")
    ∷ (key.Sig (codes "A") (codes "m")
    ∷ (key.Sig (codes "A") (codes "n")
    ∷ (key.Sig (codes "B") (codes "m")
    ∷ (key.Sig (codes "B") (codes "n")
    ∷ (key.Sig (codes "C") (codes "m")
    ∷ (key.Sig (codes "C") (codes "n")
    ∷ (key.Sig (codes "Missing") (codes "m")
    ∷ (key.Sig (codes "Missing") (codes "n")
    ∷ (key.Own (unit.Method (codes "A") (codes "m") 0) ∷ [])))))))))))))

-- what the class C reaches: itself, and what stands above it
abbrev pub keys_of_c : List Key
keys_of_c = key.Model ∷ (key.Head (codes "C") ∷ (key.Head (codes "Missing") ∷ (key.Own (unit.Class (codes "C")) ∷ [])))
