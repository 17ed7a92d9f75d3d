-- The layouts of records that keep the rules.
use Rattle.layout.specs.Layouts.{Layout}
use Rattle.table.specs.declared.kept_layout.KeptLayout.{KeptLayout}
use Rattle.table.specs.Records.{record_layout}

abbrev pub layout_of : KeptLayout → Layout
layout_of l = record_layout l.pool.now l.layout
