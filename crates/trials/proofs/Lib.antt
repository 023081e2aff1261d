mod WholeKits
